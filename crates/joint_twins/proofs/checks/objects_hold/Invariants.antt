use Rattle.std.proofs.Common.{ℕ}
use Rattle.rvt_tree.specs.declared.programs.Object.{Object}
use Rattle.c_types.specs.Layout.{shape_of}
use Rattle.joint_laws.specs.Premises.{HoldsBelow}
use Rattle.joint_twins.proofs.Below.{AllBelow}
use Rattle.joint_twins.proofs.checks.objects_hold.Given as goal

abbrev pub invariant-loop-number : goal.invariant-loop-number
invariant-loop-number l = AllBelow (λ (n : ℕ) (object : Object). HoldsBelow l.count (shape_of object.ty)) l.objects l.number
