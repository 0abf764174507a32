use Rattle.std.proofs.Common.{ℕ, Option}
use Rattle.joint_twins.specs.Checks.{TurnsAt}
use Rattle.joint_twins.proofs.Below.{AllBelow}
use Rattle.joint_twins.proofs.checks.all_turn.Given as goal

abbrev pub invariant-loop-number : goal.invariant-loop-number
invariant-loop-number l = AllBelow (λ (n : ℕ) (partner : Option ℕ). TurnsAt l.back n partner) l.there l.number
