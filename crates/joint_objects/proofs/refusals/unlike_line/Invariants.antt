use Rattle.std.proofs.Common.{◌≡◌, length}
use Rattle.joint_objects.specs.Globals.{line_of_unlike}
use Rattle.joint_objects.proofs.refusals.unlike_line.Given as goal

abbrev pub invariant-lines : goal.invariant-lines
invariant-lines l = line_of_unlike l.fn.structs l.fn.old l.fn.new l.left ≡ line_of_unlike l.fn.structs l.fn.old l.fn.new l.initial.left

abbrev pub decreases-lines : goal.decreases-lines
decreases-lines l = length l.left
