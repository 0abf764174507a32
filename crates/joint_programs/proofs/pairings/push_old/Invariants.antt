use Rattle.std.proofs.Common.{◌≡◌, ◌++◌, length}
use Rattle.joint_programs.specs.Pairings.{old_structs_from}
use Rattle.joint_programs.proofs.pairings.push_old.Given as goal

abbrev pub invariant-structs : goal.invariant-structs
invariant-structs l = l.pairs.items ++ old_structs_from l.fn.count l.number l.left ≡ l.initial.pairs.items ++ old_structs_from l.fn.count 0 l.initial.left

abbrev pub decreases-structs : goal.decreases-structs
decreases-structs l = length l.left
