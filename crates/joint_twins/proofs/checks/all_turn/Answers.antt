use Rattle.std.proofs.Common.{◌≤◌, ℕ, Option, Some, length, refl, arith}
use Rattle.joint_twins.specs.Checks.{TurnsAt}
use Rattle.joint_twins.proofs.Below.{of_all}
use Rattle.joint_twins.proofs.checks.all_turn.Goals as goal

pub returns : goal.returns
returns c =
    let whole : length c.args.there.now ≤ c.loop-number.number = omega (arith, c.loop-number-test.false) in
    (λ yes a b paired. of_all (λ (n : ℕ) (partner : Option ℕ). TurnsAt c.args.back.now n partner) c.args.there.now c.loop-number.number whole c.loop-number.invariant a (Some b) paired, λ turn. refl)
