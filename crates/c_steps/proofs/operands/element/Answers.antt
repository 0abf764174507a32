use Rattle.std.proofs.Common.{rules, FitsSigned, ap, ◌∙◌}
use Rattle.std.specs.Int.{w128}
use Rattle.c_meaning.specs.Stores.{number_of, element_at}
use Rattle.c_tasks.specs.Operands.{operands, top_value, top_place, without_place}
use Rattle.c_tasks.specs.Weights.{tasks_weight}
use Rattle.c_steps.proofs.SmallNumbers.{read_back}
use Rattle.c_steps.proofs.Moves.{given_place, if_ok}
use Rattle.c_steps.proofs.operands.element.Goals as goal

pub returns-clause-next : goal.returns-clause-next
returns-clause-next c =
    let array = c.take_place-array.ensures.place ∙ ap top_place c.take_value-index.ensures.operands in
    let fits : FitsSigned w128 c.value.result = search rules in
    let index = read_back c.value.result fits ∙ c.value.ensures.value ∙ ap (λ n. n.value) (c.number_of.ensures ∙ ap number_of c.take_value-index.ensures.value) in
    if_ok c.give_place_or_trap.result (λ progress h program d s. h program d s ∙ given_place program d s _ _ _ _ _ _ (c.take_place-array.ensures.tasks ∙ c.take_value-index.ensures.tasks) (c.take_place-array.ensures.operands ∙ ap without_place c.take_value-index.ensures.operands) (c.in_ok-place.ensures ∙ ap (λ i. element_at c.take_place-array.result i c.args.count c.args.size) index ∙ ap (λ place. element_at place (number_of (top_value (operands c.args.work.now))).value c.args.count c.args.size) array)) c.give_place_or_trap.ensures.next

pub returns-clause-light : goal.returns-clause-light
returns-clause-light c =
    if_ok c.give_place_or_trap.result (λ progress h. h ∙ ap tasks_weight (c.take_place-array.ensures.tasks ∙ c.take_value-index.ensures.tasks)) c.give_place_or_trap.ensures.light
