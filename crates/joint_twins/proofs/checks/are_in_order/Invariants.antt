use Rattle.std.proofs.Common.{ℕ, map}
use Rattle.rvt_tree.specs.declared.programs.StructDef.{StructDef}
use Rattle.joint_programs.specs.Parts.{field_parts}
use Rattle.joint_laws.specs.Premises.{HoldBelow}
use Rattle.joint_twins.proofs.Below.{AllBelow}
use Rattle.joint_twins.proofs.checks.are_in_order.Given as goal

abbrev pub invariant-loop-number : goal.invariant-loop-number
invariant-loop-number l = AllBelow (λ (n : ℕ) (s : StructDef). HoldBelow n (map field_parts s.fields)) l.structs l.number
