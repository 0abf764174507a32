use Rattle.std.proofs.Common.{◌≡◌, ◌-◌, suc, sym, ap, ◌∙◌, arith}
use Rattle.c_steps.specs.Steps.{with_left, coming}
use Rattle.c_steps.specs.declared.progress.Progress.TheVariants as P
use Rattle.c_interp.specs.declared.events.Event.TheVariants as E
use Rattle.c_interp.specs.Frames.{whole, happening}
use Rattle.c_interp.proofs.Stacked.{whole_cut}
use Rattle.c_interp.proofs.engine.Engine.test_with_step.Goals as goal

pub returns-then-left-eq0 : goal.returns-then-left-eq0
returns-then-left-eq0 c =
    sym (ap (λ n. whole c.args.layouts.now c.args.self.now.frames.items (coming c.args.layouts.now c.args.self.now.depth (P.Tests c.args.s) c.args.self.now.work (with_left c.args.self.now.cells n))) c.if-left-eq0.true ∙ whole_cut c.args.layouts.now c.args.self.now.frames.items)

pub returns : goal.returns
returns c =
    let more : suc (c.args.left - 1) ≡ c.args.left = omega (arith, c.if-left-eq0.false) in
    (omega (arith, more), c.in_ok-test.ensures (c.args.left - 1) ∙ ap (happening c.args.layouts.now (E.Tests c.args.s) c.args.self.now) more)
