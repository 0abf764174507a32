use Rattle.std.proofs.Common.{ap, ◌∙◌}
use Rattle.c_meaning.specs.Stores.{write}
use Rattle.c_tasks.specs.Operands.{operands, without_value, top_place, without_place}
use Rattle.c_tasks.specs.Tasks.{after}
use Rattle.c_steps.specs.Steps.{with_left}
use Rattle.c_steps.proofs.places.store.Goals as goal

pub returns-clause-next : goal.returns-clause-next
returns-clause-next c =
    λ d left. ap (λ ts. after c.args.layouts.now d ts (operands c.take_place-place.new.self) (with_left c.write.new.self left)) (c.take_place-place.ensures.tasks ∙ c.take_value-value.ensures.tasks)
    ∙ ap (λ on. after c.args.layouts.now d c.args.work.now.tasks.items on (with_left c.write.new.self left)) (c.take_place-place.ensures.operands ∙ ap without_place c.take_value-value.ensures.operands)
    ∙ ap (λ cells. after c.args.layouts.now d c.args.work.now.tasks.items (without_place (without_value (operands c.args.work.now))) (with_left cells left)) (c.write.ensures ∙ ap (λ p. write c.args.layouts.now p c.take_value-value.result c.args.cells.now) (c.take_place-place.ensures.place ∙ ap top_place c.take_value-value.ensures.operands) ∙ ap (λ v. write c.args.layouts.now (top_place (operands c.args.work.now)) v c.args.cells.now) c.take_value-value.ensures.value)

pub returns-clause-tasks : goal.returns-clause-tasks
returns-clause-tasks c =
    c.take_place-place.ensures.tasks ∙ c.take_value-value.ensures.tasks
