use Rattle.std.proofs.Common.{◌≡◌, ◌++◌, map, length}
use Rattle.std.specs.List.{flat_map}
use Rattle.joint_objects.specs.JointObjects.{global_of_old, global_of_new}
use Rattle.joint_objects.proofs.joint.push_globals.Given as goal

abbrev pub invariant-old : goal.invariant-old
invariant-old l = l.table.items ++ map global_of_old l.left ≡ l.initial.table.items ++ map global_of_old l.initial.left

abbrev pub decreases-old : goal.decreases-old
decreases-old l = length l.left

abbrev pub invariant-new : goal.invariant-new
invariant-new l = l.table.items ++ flat_map global_of_new l.left ≡ l.initial.table.items ++ flat_map global_of_new l.initial.left

abbrev pub decreases-new : goal.decreases-new
decreases-new l = length l.left
