use Rattle.std.proofs.Common.{◌≡◌, length}
use Rattle.joint_objects.specs.StructTypes.{same_fields}
use Rattle.joint_objects.proofs.structs.same_fields.Given as goal

-- what is left is the same exactly where the whole is
abbrev pub invariant-fields : goal.invariant-fields
invariant-fields l = same_fields l.fn.known l.left l.right ≡ same_fields l.fn.known l.initial.left l.initial.right

abbrev pub decreases-fields : goal.decreases-fields
decreases-fields l = length l.left
