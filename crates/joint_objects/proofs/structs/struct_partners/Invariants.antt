use Rattle.std.proofs.Common.{◌≡◌, length}
use Rattle.joint_objects.specs.StructTypes.{struct_partners_from}
use Rattle.joint_objects.proofs.structs.struct_partners.Given as goal

-- the partners so far, and then those of the structs that are left
abbrev pub invariant-structs : goal.invariant-structs
invariant-structs l = struct_partners_from l.fn.theirs l.known.items l.left ≡ struct_partners_from l.fn.theirs l.initial.known.items l.initial.left

abbrev pub decreases-structs : goal.decreases-structs
decreases-structs l = length l.left
