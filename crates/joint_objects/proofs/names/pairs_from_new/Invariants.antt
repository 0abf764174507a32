use Rattle.std.proofs.Common.{◌≡◌, ◌++◌, length}
use Rattle.joint_objects.specs.Names.{pair_views}
use Rattle.joint_objects.specs.Sides.{from_new}
use Rattle.joint_objects.proofs.names.pairs_from_new.Given as goal

abbrev pub invariant-lines : goal.invariant-lines
invariant-lines l = pair_views l.pairs.items ++ from_new l.left ≡ from_new l.initial.left

abbrev pub decreases-lines : goal.decreases-lines
decreases-lines l = length l.left
