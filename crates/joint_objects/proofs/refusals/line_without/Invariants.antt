use Rattle.std.proofs.Common.{◌≡◌, length}
use Rattle.joint_objects.specs.Globals.{line_without_global}
use Rattle.joint_objects.proofs.refusals.line_without.Given as goal

abbrev pub invariant-lines : goal.invariant-lines
invariant-lines l = line_without_global l.fn.old l.fn.new l.left ≡ line_without_global l.fn.old l.fn.new l.initial.left

abbrev pub decreases-lines : goal.decreases-lines
decreases-lines l = length l.left
