use Rattle.std.proofs.Common.{ap, ◌∙◌, arith}
use Rattle.rvt_tree.specs.Views.{expr_view}
use Rattle.c_meaning.specs.Stores.{holds}
use Rattle.c_tasks.specs.Operands.{operands, without_value}
use Rattle.c_tasks.specs.Tasks.{either, step}
use Rattle.c_tasks.specs.Weights.{tasks_weight}
use Rattle.c_tasks.specs.declared.tasks.Task.TheVariants as T
use Rattle.c_steps.proofs.Moves.{becomes_from}
use Rattle.c_steps.proofs.choices.either.Goals as goal

pub returns-clause-next : goal.returns-clause-next
returns-clause-next c =
    let test = c.holds-left.ensures ∙ ap holds c.take_value.ensures.value in
    becomes_from (λ program d. either program d c.holds-left.result (expr_view c.args.e.now.value)) (λ program d. step program d (T.Or c.args.e)) c.args.work.now c.take_value.new.self c.either.new.self (without_value (operands c.args.work.now)) c.take_value.ensures.tasks c.take_value.ensures.operands (λ program d next s. ap (λ b. either program d b (expr_view c.args.e.now.value) next (without_value (operands c.args.work.now)) s) test) c.in_ok-either.ensures.next

pub returns-clause-weight : goal.returns-clause-weight
returns-clause-weight c =
    omega (arith, c.in_ok-either.ensures.weight, ap tasks_weight c.take_value.ensures.tasks)
