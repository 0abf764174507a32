use Rattle.std.proofs.Common.{subst}
use Rattle.rvt_tree.specs.Views.{stmt_view}
use Rattle.c_meaning.specs.Outcomes.{and_then}
use Rattle.c_meaning.specs.Statements.{after_body, acts, meaning}
use Rattle.c_meaning.specs.Runs.{stepping}
use Rattle.c_tasks.specs.Operands.{with_manner}
use Rattle.c_tasks.specs.Tasks.{ending, running_statement, running_part, rounded, last_in, TasksBecome}
use Rattle.c_tasks.specs.declared.tasks.Part.TheVariants as P
use Rattle.c_tasks.proofs.Sequences.{becomes}
use Rattle.c_tasks.proofs.Forms.{tasks_then}
use Rattle.c_tasks.proofs.ValueForms.{on_ok}
use Rattle.c_control.proofs.Parts.{in_turn}
use Rattle.c_control.proofs.loops.for_round.Goals as goal

pub returns-clause-next : goal.returns-clause-next
returns-clause-next c =
    on_ok c.put-3.result (λ h. becomes (λ program d next. running_statement program d (stmt_view c.args.body.now.value) (running_part program d P.Last (stmt_view c.args.s.now) (running_part program d P.After (stmt_view c.args.s.now) next))) (λ program d. ending program d (and_then (and_then (meaning program (stepping program d) (stmt_view c.args.body.now.value)) (after_body (acts program (stepping program d) (last_in (stmt_view c.args.s.now))))) (rounded program d (stmt_view c.args.s.now)))) c.args.work.now c.put-3.new.tasks.items
    (tasks_then (λ program d next. running_part program d P.Last (stmt_view c.args.s.now) (running_part program d P.After (stmt_view c.args.s.now) next)) (λ program d. running_statement program d (stmt_view c.args.body.now.value)) c.args.work.now.tasks.items c.put-2.new.tasks.items c.put-3.new.tasks.items
    (tasks_then (λ program d. running_part program d P.After (stmt_view c.args.s.now)) (λ program d. running_part program d P.Last (stmt_view c.args.s.now)) c.args.work.now.tasks.items c.put.new.tasks.items c.put-2.new.tasks.items c.in_ok-put.ensures.next c.in_ok-put-2.ensures.next)
    (subst (λ x. TasksBecome (λ program d. running_statement program d (stmt_view x)) c.put-2.new.tasks.items c.put-3.new.tasks.items) c.deref.ensures h))
    (λ program d next on s. in_turn (meaning program (stepping program d) (stmt_view c.args.body.now.value)) (after_body (acts program (stepping program d) (last_in (stmt_view c.args.s.now)))) (rounded program d (stmt_view c.args.s.now)) (λ manner. next (with_manner manner on)) s)) c.put-3.ensures.next
