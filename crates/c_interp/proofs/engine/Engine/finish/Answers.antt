use Rattle.std.proofs.Common.{subst, ◌∙◌, arith}
use Rattle.c_interp.specs.Frames.{going}
use Rattle.c_interp.specs.Frames.{HasStepped}
use Rattle.c_interp.proofs.engine.Engine.finish.Goals as goal

pub returns-in-Some-clause-end : goal.returns-in-Some-clause-end
returns-in-Some-clause-end c =
    subst (λ o. HasStepped c.args.layouts.now o c.go.new.self c.steps.left (going c.args.layouts.now c.steps.self c.steps.left)) c.in-Some.is c.in_ok-halt.ensures ∙ c.steps.invariant.0

pub returns-in-Some-clause-left : goal.returns-in-Some-clause-left
returns-in-Some-clause-left c =
    c.steps.invariant.1

pub overflow_sub-left : goal.overflow_sub-left
overflow_sub-left c =
    omega (arith, (subst (λ o. HasStepped c.args.layouts.now o c.go.new.self c.steps.left (going c.args.layouts.now c.steps.self c.steps.left)) c.in-None.is c.in_ok-halt.ensures).0)

pub steps-preserved : goal.steps-preserved
steps-preserved c =
    let h = subst (λ o. HasStepped c.args.layouts.now o c.go.new.self c.steps.left (going c.args.layouts.now c.steps.self c.steps.left)) c.in-None.is c.in_ok-halt.ensures in
    (h.1 ∙ c.steps.invariant.0, omega (arith, c.steps.invariant.1))

pub steps-smaller : goal.steps-smaller
steps-smaller c =
    omega (arith, (subst (λ o. HasStepped c.args.layouts.now o c.go.new.self c.steps.left (going c.args.layouts.now c.steps.self c.steps.left)) c.in-None.is c.in_ok-halt.ensures).0)
