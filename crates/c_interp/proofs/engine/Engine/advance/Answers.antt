use Rattle.std.proofs.Common.{◌<◌, sym, ap, subst, ◌∙◌}
use Rattle.c_interp.specs.Frames.{happening_next, engine_weight}
use Rattle.std.proofs.Common.{IfNone}
use Rattle.c_interp.proofs.engine.Engine.advance.Goals as goal

pub returns-in-Some : goal.returns-in-Some
returns-in-Some c =
    λ left. sym (ap (λ o. happening_next c.args.layouts.now o c.turn.new.self left) c.in-Some.is) ∙ c.in-Ok.ensures.same left ∙ c.tasks.invariant left

pub tasks-preserved : goal.tasks-preserved
tasks-preserved c =
    λ left. sym (ap (λ o. happening_next c.args.layouts.now o c.turn.new.self left) c.in-None.is) ∙ c.in-Ok.ensures.same left ∙ c.tasks.invariant left

pub tasks-smaller : goal.tasks-smaller
tasks-smaller c =
    subst (λ o. IfNone o (engine_weight c.turn.new.self < engine_weight c.tasks.self)) c.in-None.is c.in-Ok.ensures.lighter
