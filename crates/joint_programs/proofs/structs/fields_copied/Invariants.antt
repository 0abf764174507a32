use Rattle.std.proofs.Common.{◌≡◌, ◌++◌, map, length}
use Rattle.joint_programs.specs.Parts.{field_parts}
use Rattle.joint_programs.proofs.structs.fields_copied.Given as goal

abbrev pub invariant-fields : goal.invariant-fields
invariant-fields l = map field_parts l.copies.items ++ map field_parts l.left ≡ map field_parts l.initial.left

abbrev pub decreases-fields : goal.decreases-fields
decreases-fields l = length l.left
