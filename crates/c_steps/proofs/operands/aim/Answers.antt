use Rattle.std.proofs.Common.{ap, ◌∙◌}
use Rattle.c_meaning.specs.Stores.{target}
use Rattle.c_tasks.specs.Weights.{tasks_weight}
use Rattle.c_steps.proofs.Moves.{given_place, if_ok}
use Rattle.c_steps.proofs.operands.aim.Goals as goal

pub returns-clause-next : goal.returns-clause-next
returns-clause-next c =
    if_ok c.give_place_or_trap.result (λ progress h d s. h c.args.layouts.now d s ∙ given_place c.args.layouts.now d s _ _ _ _ _ _ c.take_value-pointer.ensures.tasks c.take_value-pointer.ensures.operands (c.target-place.ensures ∙ ap (target c.args.layouts.now c.args.pointee) c.take_value-pointer.ensures.value)) c.give_place_or_trap.ensures.next

pub returns-clause-light : goal.returns-clause-light
returns-clause-light c =
    if_ok c.give_place_or_trap.result (λ progress h. h ∙ ap tasks_weight c.take_value-pointer.ensures.tasks) c.give_place_or_trap.ensures.light
