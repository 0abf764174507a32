use Rattle.std.proofs.Common.{◌≡◌, ◌++◌, length}
use Rattle.joint_objects.specs.Indexes.{keys_view}
use Rattle.joint_objects.specs.StructTypes.{struct_keys}
use Rattle.joint_objects.proofs.structs.struct_keys.Given as goal

abbrev pub invariant-structs : goal.invariant-structs
invariant-structs l = keys_view l.keys.items ++ struct_keys l.left ≡ struct_keys l.initial.left

abbrev pub decreases-structs : goal.decreases-structs
decreases-structs l = length l.left
