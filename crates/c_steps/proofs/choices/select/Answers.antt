use Rattle.std.proofs.Common.{ap, subst, ◌∙◌, arith}
use Rattle.rvt_tree.specs.Views.{groups_view}
use Rattle.c_meaning.specs.Stores.{number_of}
use Rattle.c_tasks.specs.Operands.{operands, without_value}
use Rattle.c_tasks.specs.Tasks.{Becomes, step}
use Rattle.c_tasks.specs.Weights.{tasks_weight, groups_weight}
use Rattle.c_tasks.specs.declared.tasks.Task.TheVariants as T
use Rattle.c_control.specs.Groups.{selecting_by}
use Rattle.c_steps.proofs.Moves.{becomes_from}
use Rattle.c_steps.proofs.choices.select.Goals as goal

pub returns-clause-next : goal.returns-clause-next
returns-clause-next c =
    becomes_from (λ program d. selecting_by program d c.number_of-number.result (groups_view c.args.groups.now.value)) (λ program d. step program d (T.Select c.args.groups)) c.args.work.now c.take_value.new.self c.select.new.work (without_value (operands c.args.work.now)) c.take_value.ensures.tasks c.take_value.ensures.operands (λ program d next s. ap (λ n. selecting_by program d n (groups_view c.args.groups.now.value) next (without_value (operands c.args.work.now)) s) (c.number_of-number.ensures ∙ ap number_of c.take_value.ensures.value)) (subst (λ x. Becomes (λ program d. selecting_by program d c.number_of-number.result (groups_view x)) c.take_value.new.self c.select.new.work) c.deref.ensures c.in_ok-select.ensures.next)

pub returns-clause-weight : goal.returns-clause-weight
returns-clause-weight c =
    omega (arith, c.in_ok-select.ensures.weight, ap tasks_weight c.take_value.ensures.tasks, ap (λ x. groups_weight (groups_view x)) c.deref.ensures)
