use Rattle.std.proofs.Common.{sym, ap, ◌∙◌, arith}
use Rattle.rvt_tree.specs.Views.{stmt_view}
use Rattle.c_meaning.specs.Outcomes.{Normally, and_then}
use Rattle.c_meaning.specs.Statements.{after_body, acts, meaning}
use Rattle.c_meaning.specs.Runs.{stepping}
use Rattle.c_tasks.specs.Operands.{operands, with_manner}
use Rattle.c_tasks.specs.Tasks.{ending, rounded, onward, last_in, body_in, after}
use Rattle.c_tasks.specs.Weights.{statement_weight, actions_weight, tasks_weight}
use Rattle.c_tasks.proofs.Sequences.{becomes_with}
use Rattle.c_tasks.proofs.ValueForms.{on_ok}
use Rattle.c_control.proofs.Parts.{ends_alike}
use Rattle.c_control.proofs.Turns.{onward_while, onward_do, onward_for, no_onward, not_loop}
use Rattle.c_control.proofs.loops.go_round.Goals as goal

pub returns-in-While-clause-next : goal.returns-in-While-clause-next
returns-in-While-clause-next c =
    on_ok c.round.result (λ h program law d s. h program d s ∙ ends_alike program d (and_then (meaning program (stepping program d) (stmt_view c.in-While.body.value)) (rounded program d (stmt_view c.args.s.now))) (onward program d (stmt_view c.args.s.now)) (after program d c.args.work.now.tasks.items) (operands c.args.work.now) s (onward_while program law d (stmt_view c.args.s.now) _ _ _ (ap stmt_view c.in-While.is) s)) c.round.ensures.next

pub returns-in-While-clause-weight : goal.returns-in-While-clause-weight
returns-in-While-clause-weight c =
    on_ok c.round.result (λ e. omega (arith, e, ap (λ x. statement_weight (body_in (stmt_view x))) c.in-While.is)) c.round.ensures.weight

pub returns-in-DoWhile-clause-next : goal.returns-in-DoWhile-clause-next
returns-in-DoWhile-clause-next c =
    on_ok c.round-in-DoWhile.result (λ h program law d s. h program d s ∙ ends_alike program d (and_then (meaning program (stepping program d) (stmt_view c.in-DoWhile.body.value)) (rounded program d (stmt_view c.args.s.now))) (onward program d (stmt_view c.args.s.now)) (after program d c.args.work.now.tasks.items) (operands c.args.work.now) s (onward_do program law d (stmt_view c.args.s.now) _ _ _ (ap stmt_view c.in-DoWhile.is) s)) c.round-in-DoWhile.ensures.next

pub returns-in-DoWhile-clause-weight : goal.returns-in-DoWhile-clause-weight
returns-in-DoWhile-clause-weight c =
    on_ok c.round-in-DoWhile.result (λ e. omega (arith, e, ap (λ x. statement_weight (body_in (stmt_view x))) c.in-DoWhile.is)) c.round-in-DoWhile.ensures.weight

pub returns-in-For-clause-next : goal.returns-in-For-clause-next
returns-in-For-clause-next c =
    on_ok c.for_round.result (λ h program law d s. h program d s ∙ ends_alike program d (and_then (and_then (meaning program (stepping program d) (stmt_view c.in-For.body.value)) (after_body (acts program (stepping program d) (last_in (stmt_view c.args.s.now))))) (rounded program d (stmt_view c.args.s.now))) (onward program d (stmt_view c.args.s.now)) (after program d c.args.work.now.tasks.items) (operands c.args.work.now) s (onward_for program law d (stmt_view c.args.s.now) _ _ _ _ _ (ap stmt_view c.in-For.is) s)) c.for_round.ensures.next

pub returns-in-For-clause-weight : goal.returns-in-For-clause-weight
returns-in-For-clause-weight c =
    on_ok c.for_round.result (λ e. omega (arith, e, ap (λ x. statement_weight (body_in (stmt_view x))) c.in-For.is, ap (λ x. actions_weight (last_in (stmt_view x))) c.in-For.is)) c.for_round.ensures.weight

pub returns-in_default : goal.returns-in_default
returns-in_default c =
    record {
      next = λ program law. becomes_with (λ program d. ending program d (onward program d (stmt_view c.args.s.now))) c.args.work.now c.end.new.self (with_manner Normally (operands c.args.work.now)) c.end.ensures.tasks c.end.ensures.operands (λ program d next s. sym (ap (λ part. ending program d part next (operands c.args.work.now) s) (no_onward program d (stmt_view c.args.s.now) (not_loop c.args.s.now c.in_default.not-While c.in_default.not-DoWhile c.in_default.not-For)))) program;
      weight = omega (arith, ap tasks_weight c.end.ensures.tasks);
    }
