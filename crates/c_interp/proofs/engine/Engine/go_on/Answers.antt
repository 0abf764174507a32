use Rattle.std.proofs.Common.{sym, ap, ◌∙◌, arith}
use Rattle.c_steps.specs.Steps.{with_left, coming, progress_weight}
use Rattle.c_interp.specs.Frames.{whole}
use Rattle.c_interp.proofs.Stacked.{whole_trapped}
use Rattle.c_interp.proofs.Results.{if_ok, on_none}
use Rattle.c_interp.proofs.engine.Engine.go_on.Goals as goal

pub returns-in-GoesOn-clause-same : goal.returns-in-GoesOn-clause-same
returns-in-GoesOn-clause-same c =
    λ left. sym (ap (λ p. whole c.args.layouts.now c.args.self.now.frames.items (coming c.args.layouts.now c.args.self.now.depth p c.args.self.now.work (with_left c.args.self.now.cells left))) c.in-GoesOn.is)

pub returns-in-GoesOn-clause-lighter : goal.returns-in-GoesOn-clause-lighter
returns-in-GoesOn-clause-lighter c =
    omega (arith, ap progress_weight c.in-GoesOn.is)

pub returns-in-Traps-clause-same : goal.returns-in-Traps-clause-same
returns-in-Traps-clause-same c =
    λ left. sym (ap (λ p. whole c.args.layouts.now c.args.self.now.frames.items (coming c.args.layouts.now c.args.self.now.depth p c.args.self.now.work (with_left c.args.self.now.cells left))) c.in-Traps.is ∙ whole_trapped c.args.layouts.now c.args.self.now.frames.items c.in-Traps.trap left)

pub returns-in-Returns-clause-same : goal.returns-in-Returns-clause-same
returns-in-Returns-clause-same c =
    if_ok c.come_back.result (λ event h left. h left ∙ sym (ap (λ p. whole c.args.layouts.now c.args.self.now.frames.items (coming c.args.layouts.now c.args.self.now.depth p c.args.self.now.work (with_left c.args.self.now.cells left))) c.in-Returns.is)) c.come_back.ensures.same

pub returns-in-Returns-clause-lighter : goal.returns-in-Returns-clause-lighter
returns-in-Returns-clause-lighter c =
    if_ok c.come_back.result (λ event. on_none event (λ h. omega (arith, h))) c.come_back.ensures.lighter

pub returns-in-Calls-clause-same : goal.returns-in-Calls-clause-same
returns-in-Calls-clause-same c =
    λ left. sym (ap (λ p. whole c.args.layouts.now c.args.self.now.frames.items (coming c.args.layouts.now c.args.self.now.depth p c.args.self.now.work (with_left c.args.self.now.cells left))) c.in-Calls.is)

pub returns-in-Tests-clause-same : goal.returns-in-Tests-clause-same
returns-in-Tests-clause-same c =
    λ left. sym (ap (λ p. whole c.args.layouts.now c.args.self.now.frames.items (coming c.args.layouts.now c.args.self.now.depth p c.args.self.now.work (with_left c.args.self.now.cells left))) c.in-Tests.is)

pub returns-in_ok-initialize-in-Initializes-clause-same : goal.returns-in_ok-initialize-in-Initializes-clause-same
returns-in_ok-initialize-in-Initializes-clause-same c =
    λ left. c.in_ok-initialize-in-Initializes.ensures.same left ∙ sym (ap (λ p. whole c.args.layouts.now c.args.self.now.frames.items (coming c.args.layouts.now c.args.self.now.depth p c.args.self.now.work (with_left c.args.self.now.cells left))) c.in-Initializes.is)

pub returns-in_ok-initialize-in-Initializes-clause-lighter : goal.returns-in_ok-initialize-in-Initializes-clause-lighter
returns-in_ok-initialize-in-Initializes-clause-lighter c =
    omega (arith, c.in_ok-initialize-in-Initializes.ensures.lighter, ap progress_weight c.in-Initializes.is)
