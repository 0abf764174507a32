use Rattle.rvt_tree.specs.Syntax.{action}
use Rattle.rvt_tree.specs.Views.{act_view}
use Rattle.c_meaning.specs.Outcomes.{Normally, give}
use Rattle.c_meaning.specs.Statements.{act}
use Rattle.c_meaning.specs.Runs.{stepping}
use Rattle.c_tasks.specs.Operands.{with_manner}
use Rattle.c_tasks.specs.Tasks.{acting, running_statement, step}
use Rattle.c_tasks.specs.declared.tasks.Task.TheVariants as T
use Rattle.c_tasks.proofs.Sequences.{one_part, becomes_then}
use Rattle.c_tasks.proofs.ValueForms.{on_ok}
use Rattle.c_tasks.proofs.work.Work.finish_act.Goals as goal

pub returns-clause-next : goal.returns-clause-next
returns-clause-next c =
    on_ok c.act.result (λ h. becomes_then (λ program d. step program d T.Complete) (λ program d. acting program d (act_view c.args.act.now)) (λ program d. running_statement program d (action (act_view c.args.act.now))) c.args.self.now c.act.new.self c.put.new.tasks.items c.in_ok-put.ensures.next h (λ program d next on s. one_part (act program (stepping program d) (act_view c.args.act.now)) (λ _. give Normally) (λ manner. next (with_manner manner on)) s)) c.act.ensures.next
