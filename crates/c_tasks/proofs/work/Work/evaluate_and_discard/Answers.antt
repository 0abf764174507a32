use Rattle.std.proofs.Common.{arith}
use Rattle.rvt_tree.specs.Syntax.{evaluate}
use Rattle.rvt_tree.specs.Views.{expr_view}
use Rattle.c_meaning.specs.Expressions.{value_of}
use Rattle.c_meaning.specs.Statements.{nothing}
use Rattle.c_meaning.specs.Runs.{stepping}
use Rattle.c_tasks.specs.Tasks.{evaluating, acting, step}
use Rattle.c_tasks.specs.declared.tasks.Task.TheVariants as T
use Rattle.c_tasks.proofs.Sequences.{one_part, becomes_then}
use Rattle.c_tasks.proofs.ValueForms.{on_ok}
use Rattle.c_tasks.proofs.work.Work.evaluate_and_discard.Goals as goal

pub returns-clause-next : goal.returns-clause-next
returns-clause-next c =
    on_ok c.evaluate.result (λ h. becomes_then (λ program d. step program d T.Discard) (λ program d. evaluating program d (expr_view c.args.e.now)) (λ program d. acting program d (evaluate (expr_view c.args.e.now))) c.args.self.now c.evaluate.new.self c.put.new.tasks.items c.in_ok-put.ensures.next h (λ program d next on s. one_part (value_of program (stepping program d) (expr_view c.args.e.now)) (λ v. nothing) (λ _. next on) s)) c.evaluate.ensures.next

pub returns-clause-weight : goal.returns-clause-weight
returns-clause-weight c =
    on_ok c.evaluate.result (λ e. omega (arith, e, c.in_ok-put.ensures.weight)) c.evaluate.ensures.weight
