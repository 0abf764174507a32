use Rattle.std.proofs.Common.{subst}
use Rattle.rvt_tree.specs.Views.{stmt_view, stmts_view}
use Rattle.c_meaning.specs.Outcomes.{and_then}
use Rattle.c_meaning.specs.Statements.{left_scope, declared_in, in_scope, block}
use Rattle.c_meaning.specs.Runs.{stepping}
use Rattle.c_tasks.specs.Operands.{with_manner}
use Rattle.c_tasks.specs.Tasks.{ending, running_block, tested, TasksBecome}
use Rattle.c_tasks.proofs.Sequences.{becomes}
use Rattle.c_tasks.proofs.Forms.{tasks_then}
use Rattle.c_tasks.proofs.ValueForms.{on_ok}
use Rattle.c_control.proofs.Parts.{in_turn}
use Rattle.c_control.proofs.loops.begin_for.Goals as goal

pub returns-clause-next : goal.returns-clause-next
returns-clause-next c =
    on_ok c.put-3.result (λ h. becomes (λ program d next. running_block program d (stmts_view c.args.first.now.value) (ending program d (tested program d (stmt_view c.args.s.now)) (λ on. ending program d (left_scope (declared_in (stmts_view c.args.first.now.value)) on.manner) next on))) (λ program d. ending program d (in_scope (declared_in (stmts_view c.args.first.now.value)) (and_then (block program (stepping program d) (stmts_view c.args.first.now.value)) (λ _. tested program d (stmt_view c.args.s.now))))) c.args.work.now c.put-3.new.tasks.items
    (tasks_then (λ program d next. ending program d (tested program d (stmt_view c.args.s.now)) (λ on. ending program d (left_scope (declared_in (stmts_view c.args.first.now.value)) on.manner) next on)) (λ program d. running_block program d (stmts_view c.args.first.now.value)) c.args.work.now.tasks.items c.put-2.new.tasks.items c.put-3.new.tasks.items
    (tasks_then (λ program d next on. ending program d (left_scope (declared_in (stmts_view c.args.first.now.value)) on.manner) next on) (λ program d. ending program d (tested program d (stmt_view c.args.s.now))) c.args.work.now.tasks.items c.put.new.tasks.items c.put-2.new.tasks.items
    (subst (λ x. TasksBecome (λ program d next on. ending program d (left_scope (declared_in (stmts_view x)) on.manner) next on) c.args.work.now.tasks.items c.put.new.tasks.items) c.deref.ensures c.in_ok-put.ensures.next) c.in_ok-put-2.ensures.next) h)
    (λ program d next on s. in_turn (block program (stepping program d) (stmts_view c.args.first.now.value)) (λ _. tested program d (stmt_view c.args.s.now)) (left_scope (declared_in (stmts_view c.args.first.now.value))) (λ manner. next (with_manner manner on)) s)) c.put-3.ensures.next
