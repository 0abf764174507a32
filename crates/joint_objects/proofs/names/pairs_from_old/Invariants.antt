use Rattle.std.proofs.Common.{◌≡◌, ◌++◌, length}
use Rattle.joint_objects.specs.Names.{pair_views}
use Rattle.joint_objects.specs.Sides.{from_old}
use Rattle.joint_objects.proofs.names.pairs_from_old.Given as goal

abbrev pub invariant-lines : goal.invariant-lines
invariant-lines l = pair_views l.pairs.items ++ from_old l.left ≡ from_old l.initial.left

abbrev pub decreases-lines : goal.decreases-lines
decreases-lines l = length l.left
