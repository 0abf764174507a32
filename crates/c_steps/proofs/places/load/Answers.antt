use Rattle.std.proofs.Common.{ap, ◌∙◌}
use Rattle.c_meaning.specs.Stores.{read}
use Rattle.c_tasks.specs.Operands.{operands, with_value, without_place}
use Rattle.c_tasks.specs.Tasks.{after}
use Rattle.c_steps.specs.Steps.{with_left}
use Rattle.c_steps.proofs.places.load.Goals as goal

pub returns-clause-next : goal.returns-clause-next
returns-clause-next c =
    λ d left. ap (λ ts. after c.args.layouts.now d ts (operands c.give.new.self) (with_left c.args.cells.now left)) (c.in_ok-give.ensures.tasks ∙ c.take_place-place.ensures.tasks)
    ∙ ap (λ on. after c.args.layouts.now d c.args.work.now.tasks.items on (with_left c.args.cells.now left)) (c.in_ok-give.ensures.operands ∙ ap (with_value c.read.result) c.take_place-place.ensures.operands ∙ ap (λ v. with_value v (without_place (operands c.args.work.now))) (c.read.ensures ∙ ap (λ p. read c.args.layouts.now p c.args.cells.now) c.take_place-place.ensures.place))

pub returns-clause-tasks : goal.returns-clause-tasks
returns-clause-tasks c =
    c.in_ok-give.ensures.tasks ∙ c.take_place-place.ensures.tasks
