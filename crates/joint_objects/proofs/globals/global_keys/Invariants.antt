use Rattle.std.proofs.Common.{◌≡◌, ◌++◌, length}
use Rattle.joint_objects.specs.Indexes.{keys_view}
use Rattle.joint_objects.specs.Globals.{global_keys}
use Rattle.joint_objects.proofs.globals.global_keys.Given as goal

abbrev pub invariant-objects : goal.invariant-objects
invariant-objects l = keys_view l.keys.items ++ global_keys l.left ≡ global_keys l.initial.left

abbrev pub decreases-objects : goal.decreases-objects
decreases-objects l = length l.left
