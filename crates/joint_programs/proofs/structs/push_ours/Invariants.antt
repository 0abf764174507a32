use Rattle.std.proofs.Common.{◌≡◌, ◌++◌, map, length}
use Rattle.joint_programs.specs.Parts.{struct_parts}
use Rattle.joint_programs.proofs.structs.push_ours.Given as goal

abbrev pub invariant-structs : goal.invariant-structs
invariant-structs l = map struct_parts l.list.items ++ map struct_parts l.left ≡ map struct_parts l.initial.list.items ++ map struct_parts l.initial.left

abbrev pub decreases-structs : goal.decreases-structs
decreases-structs l = length l.left
