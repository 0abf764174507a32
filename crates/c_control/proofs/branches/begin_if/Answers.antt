use Rattle.std.proofs.Common.{None, if◌then◌else◌}
use Rattle.rvt_tree.specs.Syntax.{if_statement}
use Rattle.rvt_tree.specs.Views.{expr_view, stmt_view}
use Rattle.c_meaning.specs.Outcomes.{Normally, give}
use Rattle.c_meaning.specs.Statements.{meaning}
use Rattle.c_meaning.specs.Runs.{stepping}
use Rattle.c_tasks.specs.Operands.{with_manner}
use Rattle.c_tasks.specs.Tasks.{evaluating, branching, running_statement}
use Rattle.c_tasks.proofs.Sequences.{becomes_then}
use Rattle.c_tasks.proofs.ValueForms.{on_ok}
use Rattle.c_control.proofs.Parts.{on_value}
use Rattle.c_control.proofs.branches.begin_if.Goals as goal

pub returns-clause-next : goal.returns-clause-next
returns-clause-next c =
    on_ok c.evaluate.result (λ h. becomes_then (λ program d. branching program d (stmt_view c.args.first.now.value) None) (λ program d. evaluating program d (expr_view c.args.test.now)) (λ program d. running_statement program d (if_statement (expr_view c.args.test.now) (stmt_view c.args.first.now.value))) c.args.work.now c.evaluate.new.self c.put.new.tasks.items c.in_ok-put.ensures.next h (λ program d next on s. on_value program d (expr_view c.args.test.now) (λ b. if b then meaning program (stepping program d) (stmt_view c.args.first.now.value) else give Normally) (λ manner. next (with_manner manner on)) s)) c.evaluate.ensures.next
