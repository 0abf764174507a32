use Rattle.std.proofs.Common.{Some}
use Rattle.rvt_tree.specs.Syntax.{return_value}
use Rattle.rvt_tree.specs.Views.{expr_view}
use Rattle.c_meaning.specs.Outcomes.{leave}
use Rattle.c_meaning.specs.Stores.{number_of}
use Rattle.c_meaning.specs.Expressions.{value_of}
use Rattle.c_meaning.specs.Runs.{stepping}
use Rattle.c_tasks.specs.Operands.{with_manner}
use Rattle.c_tasks.specs.Tasks.{evaluating, running_statement, step}
use Rattle.c_tasks.specs.declared.tasks.Task.TheVariants as T
use Rattle.c_tasks.proofs.Sequences.{one_part, becomes_then}
use Rattle.c_tasks.proofs.ValueForms.{on_ok}
use Rattle.c_tasks.proofs.work.Work.return_value.Goals as goal

pub returns-clause-next : goal.returns-clause-next
returns-clause-next c =
    on_ok c.evaluate.result (λ h. becomes_then (λ program d. step program d T.Return) (λ program d. evaluating program d (expr_view c.args.e.now)) (λ program d. running_statement program d (return_value (expr_view c.args.e.now))) c.args.self.now c.evaluate.new.self c.put.new.tasks.items c.in_ok-put.ensures.next h (λ program d next on s. one_part (value_of program (stepping program d) (expr_view c.args.e.now)) (λ v. leave (Some (number_of v))) (λ manner. next (with_manner manner on)) s)) c.evaluate.ensures.next
