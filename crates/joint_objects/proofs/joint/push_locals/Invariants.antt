use Rattle.std.proofs.Common.{◌≡◌, ◌++◌, map, length}
use Rattle.std.specs.List.{flat_map}
use Rattle.joint_objects.specs.JointObjects.{local_of_old, local_of_new}
use Rattle.joint_objects.proofs.joint.push_locals.Given as goal

abbrev pub invariant-old : goal.invariant-old
invariant-old l = l.table.items ++ map local_of_old l.left ≡ l.initial.table.items ++ map local_of_old l.initial.left

abbrev pub decreases-old : goal.decreases-old
decreases-old l = length l.left

abbrev pub invariant-new : goal.invariant-new
invariant-new l = l.table.items ++ flat_map local_of_new l.left ≡ l.initial.table.items ++ flat_map local_of_new l.initial.left

abbrev pub decreases-new : goal.decreases-new
decreases-new l = length l.left
