use Rattle.std.proofs.Common.{ap, ◌∙◌, arith}
use Rattle.rvt_tree.specs.Views.{stmt_view, stmts_view}
use Rattle.c_meaning.specs.Outcomes.{and_then}
use Rattle.c_meaning.specs.Statements.{declared_in, in_scope, meaning, block}
use Rattle.c_meaning.specs.Runs.{stepping}
use Rattle.c_tasks.specs.Operands.{operands}
use Rattle.c_tasks.specs.Tasks.{tested, rounded, after}
use Rattle.c_tasks.specs.Weights.{statement_weight}
use Rattle.c_tasks.proofs.ValueForms.{on_ok}
use Rattle.c_control.specs.Loops.{is_loop}
use Rattle.c_control.proofs.Parts.{ends_alike}
use Rattle.c_control.proofs.Turns.{begins_while, begins_do, begins_for, never, not_loop}
use Rattle.c_control.proofs.loops.begin_loop.Goals as goal

pub returns-in-While-clause-next : goal.returns-in-While-clause-next
returns-in-While-clause-next c =
    on_ok c.put.result (λ h program law d s. ap (λ next. next (operands c.args.work.now) s) (h program d) ∙ ends_alike program d (tested program d (stmt_view c.args.s.now)) (meaning program (stepping program d) (stmt_view c.args.s.now)) (after program d c.args.work.now.tasks.items) (operands c.args.work.now) s (begins_while program law d (stmt_view c.args.s.now) _ _ _ (ap stmt_view c.in-While.is) s)) c.put.ensures.next

pub returns-in-While-clause-weight : goal.returns-in-While-clause-weight
returns-in-While-clause-weight c =
    on_ok c.put.result (λ e. omega (arith, e, ap (λ x. statement_weight (stmt_view x)) c.in-While.is)) c.put.ensures.weight

pub returns-in-DoWhile-clause-next : goal.returns-in-DoWhile-clause-next
returns-in-DoWhile-clause-next c =
    on_ok c.round.result (λ h program law d s. h program d s ∙ ends_alike program d (and_then (meaning program (stepping program d) (stmt_view c.in-DoWhile.body.value)) (rounded program d (stmt_view c.args.s.now))) (meaning program (stepping program d) (stmt_view c.args.s.now)) (after program d c.args.work.now.tasks.items) (operands c.args.work.now) s (begins_do program law d (stmt_view c.args.s.now) _ _ _ (ap stmt_view c.in-DoWhile.is) s)) c.round.ensures.next

pub returns-in-DoWhile-clause-weight : goal.returns-in-DoWhile-clause-weight
returns-in-DoWhile-clause-weight c =
    on_ok c.round.result (λ e. omega (arith, e, ap (λ x. statement_weight (stmt_view x)) c.in-DoWhile.is)) c.round.ensures.weight

pub returns-in-For-clause-next : goal.returns-in-For-clause-next
returns-in-For-clause-next c =
    on_ok c.begin_for.result (λ h program law d s. h program d s ∙ ends_alike program d (in_scope (declared_in (stmts_view c.in-For.first.value)) (and_then (block program (stepping program d) (stmts_view c.in-For.first.value)) (λ _. tested program d (stmt_view c.args.s.now)))) (meaning program (stepping program d) (stmt_view c.args.s.now)) (after program d c.args.work.now.tasks.items) (operands c.args.work.now) s (begins_for program law d (stmt_view c.args.s.now) _ _ _ _ _ (ap stmt_view c.in-For.is) s)) c.begin_for.ensures.next

pub returns-in-For-clause-weight : goal.returns-in-For-clause-weight
returns-in-For-clause-weight c =
    on_ok c.begin_for.result (λ e. omega (arith, e, ap (λ x. statement_weight (stmt_view x)) c.in-For.is)) c.begin_for.ensures.weight

pub returns-in_default : goal.returns-in_default
returns-in_default c = absurd (never (is_loop (stmt_view c.args.s.now)) (not_loop c.args.s.now c.in_default.not-While c.in_default.not-DoWhile c.in_default.not-For) c.requires.loop_statement)
