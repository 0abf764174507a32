use Rattle.std.proofs.Common.{ap, ◌∙◌}
use Rattle.c_meaning.specs.Stores.{pointer_to, moved}
use Rattle.c_meaning.specs.Expressions.{times}
use Rattle.c_tasks.specs.Operands.{operands, top_value, top_place, without_place}
use Rattle.c_tasks.specs.Weights.{tasks_weight}
use Rattle.c_steps.proofs.SmallNumbers.{small_read}
use Rattle.c_steps.proofs.Moves.{given_value, if_ok}
use Rattle.c_steps.proofs.operands.element_address.Goals as goal

pub returns-clause-next : goal.returns-clause-next
returns-clause-next c =
    let array = c.pointer.ensures ∙ ap pointer_to (c.take_place-array.ensures.place ∙ ap top_place c.take_value-index.ensures.operands) in
    let index = small_read c.times.result c.times.ensures.small ∙ c.times.ensures.value ∙ ap (λ v. times v c.args.size) c.take_value-index.ensures.value in
    if_ok c.give_or_trap.result (λ progress h d s. h c.args.layouts.now d s ∙ given_value c.args.layouts.now d s _ _ _ _ _ _ (c.take_place-array.ensures.tasks ∙ c.take_value-index.ensures.tasks) (c.take_place-array.ensures.operands ∙ ap without_place c.take_value-index.ensures.operands) (c.moved-pointer.ensures ∙ ap (moved c.args.layouts.now c.pointer.result) index ∙ ap (λ pointer. moved c.args.layouts.now pointer (times (top_value (operands c.args.work.now)) c.args.size)) array)) c.give_or_trap.ensures.next

pub returns-clause-light : goal.returns-clause-light
returns-clause-light c =
    if_ok c.give_or_trap.result (λ progress h. h ∙ ap tasks_weight (c.take_place-array.ensures.tasks ∙ c.take_value-index.ensures.tasks)) c.give_or_trap.ensures.light
