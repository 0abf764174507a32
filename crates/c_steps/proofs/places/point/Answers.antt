use Rattle.std.proofs.Common.{refl, ap, ◌∙◌}
use Rattle.c_meaning.specs.Stores.{pointer_to}
use Rattle.c_tasks.specs.Operands.{operands, with_value, without_place}
use Rattle.c_tasks.specs.Tasks.{step}
use Rattle.c_tasks.specs.declared.tasks.Task.TheVariants as T
use Rattle.c_steps.proofs.Moves.{becomes_with}
use Rattle.c_steps.proofs.places.point.Goals as goal

pub returns-clause-next : goal.returns-clause-next
returns-clause-next c =
    becomes_with (λ program d. step program d T.Point) c.args.work.now c.give.new.self _ (c.in_ok-give.ensures.tasks ∙ c.take_place-place.ensures.tasks) (c.in_ok-give.ensures.operands ∙ ap (with_value c.pointer.result) c.take_place-place.ensures.operands ∙ ap (λ v. with_value v (without_place (operands c.args.work.now))) (c.pointer.ensures ∙ ap pointer_to c.take_place-place.ensures.place)) (λ program d next s. refl)

pub returns-clause-tasks : goal.returns-clause-tasks
returns-clause-tasks c =
    c.in_ok-give.ensures.tasks ∙ c.take_place-place.ensures.tasks
