use Rattle.std.proofs.Common.{◌↔◌, length, map}
use Rattle.joint_programs.specs.Parts.{field_parts}
use Rattle.joint_laws.specs.Premises.{HoldBelow}
use Rattle.joint_twins.proofs.checks.fields_hold.Given as goal

-- what is left holds them exactly where the whole does
abbrev pub invariant-fields : goal.invariant-fields
invariant-fields l = HoldBelow l.number (map field_parts l.left) ↔ HoldBelow l.number (map field_parts l.initial.left)

abbrev pub decreases-fields : goal.decreases-fields
decreases-fields l = length l.left
