use Rattle.std.proofs.Common.{◌≡◌, ◌++◌, length}
use Rattle.joint_programs.specs.Pairings.{new_structs_from}
use Rattle.joint_programs.proofs.pairings.push_new.Given as goal

abbrev pub invariant-structs : goal.invariant-structs
invariant-structs l = l.pairs.items ++ new_structs_from l.number l.left ≡ l.initial.pairs.items ++ new_structs_from 0 l.initial.left

abbrev pub decreases-structs : goal.decreases-structs
decreases-structs l = length l.left
