use Rattle.rvt_tree.specs.Views.{expr_view, stmt_view}
use Rattle.c_meaning.specs.Outcomes.{and_then}
use Rattle.c_meaning.specs.Expressions.{condition}
use Rattle.c_meaning.specs.Runs.{stepping}
use Rattle.c_tasks.specs.Operands.{with_manner}
use Rattle.c_tasks.specs.Tasks.{evaluating, ending, running_part, decided}
use Rattle.c_tasks.specs.declared.tasks.Part.TheVariants as P
use Rattle.c_tasks.proofs.Sequences.{becomes_then}
use Rattle.c_tasks.proofs.ValueForms.{on_ok}
use Rattle.c_control.proofs.Parts.{on_value}
use Rattle.c_control.proofs.loops.test_value.Goals as goal

pub returns : goal.returns
returns c =
    record { next = on_ok c.evaluate.result (λ h. becomes_then (λ program d. running_part program d P.Decide (stmt_view c.args.s.now)) (λ program d. evaluating program d (expr_view c.args.test.now)) (λ program d. ending program d (and_then (condition program (stepping program d) (expr_view c.args.test.now)) (decided program d (stmt_view c.args.s.now)))) c.args.work.now c.evaluate.new.self c.put.new.tasks.items c.in_ok-put.ensures.next h (λ program d next on s. on_value program d (expr_view c.args.test.now) (decided program d (stmt_view c.args.s.now)) (λ manner. next (with_manner manner on)) s)) c.evaluate.ensures.next }
