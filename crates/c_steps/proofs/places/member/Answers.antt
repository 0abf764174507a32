use Rattle.std.proofs.Common.{refl, ap, ◌∙◌}
use Rattle.c_meaning.specs.Stores.{beyond}
use Rattle.c_tasks.specs.Operands.{operands, with_place, without_place}
use Rattle.c_tasks.specs.Tasks.{step}
use Rattle.c_tasks.specs.declared.tasks.Task.TheVariants as T
use Rattle.c_steps.proofs.Moves.{becomes_with}
use Rattle.c_steps.proofs.places.member.Goals as goal

pub returns-clause-next : goal.returns-clause-next
returns-clause-next c =
    becomes_with (λ program d. step program d (T.Member c.args.cell)) c.args.work.now c.give_place.new.self _ (c.in_ok-give_place.ensures.tasks ∙ c.take_place-aggregate.ensures.tasks) (c.in_ok-give_place.ensures.operands ∙ ap (with_place c.in_ok-place.place) c.take_place-aggregate.ensures.operands ∙ ap (λ p. with_place p (without_place (operands c.args.work.now))) (c.in_ok-place.ensures ∙ ap (beyond c.args.cell) c.take_place-aggregate.ensures.place)) (λ program d next s. refl)

pub returns-clause-tasks : goal.returns-clause-tasks
returns-clause-tasks c =
    c.in_ok-give_place.ensures.tasks ∙ c.take_place-aggregate.ensures.tasks
