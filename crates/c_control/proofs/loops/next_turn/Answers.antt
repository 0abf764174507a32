use Rattle.std.proofs.Common.{sym, ap, ◌∙◌}
use Rattle.rvt_tree.specs.Views.{stmt_view}
use Rattle.c_meaning.specs.Outcomes.{Normally}
use Rattle.c_tasks.specs.Operands.{operands, with_manner}
use Rattle.c_tasks.specs.Tasks.{ending, tested, returning, after}
use Rattle.c_tasks.proofs.Sequences.{becomes_with}
use Rattle.c_tasks.proofs.ValueForms.{on_ok}
use Rattle.c_control.proofs.Parts.{ends_alike}
use Rattle.c_control.proofs.Turns.{returns_to_test, no_returning}
use Rattle.c_control.proofs.loops.next_turn.Goals as goal

pub returns-then-is_loop-clause-next : goal.returns-then-is_loop-clause-next
returns-then-is_loop-clause-next c =
    on_ok c.put.result (λ h program law d s. ap (λ next. next (operands c.args.work.now) s) (h program d) ∙ ends_alike program d (tested program d (stmt_view c.args.s.now)) (returning program d (stmt_view c.args.s.now)) (after program d c.args.work.now.tasks.items) (operands c.args.work.now) s (returns_to_test program law d (stmt_view c.args.s.now) (sym c.is_loop.ensures ∙ c.if-is_loop.true) s)) c.put.ensures.next

pub returns-else-is_loop-clause-next : goal.returns-else-is_loop-clause-next
returns-else-is_loop-clause-next c =
    λ program law. becomes_with (λ program d. ending program d (returning program d (stmt_view c.args.s.now))) c.args.work.now c.end.new.self (with_manner Normally (operands c.args.work.now)) c.end.ensures.tasks c.end.ensures.operands (λ program d next s. sym (ap (λ part. ending program d part next (operands c.args.work.now) s) (no_returning program d (stmt_view c.args.s.now) (sym c.is_loop.ensures ∙ c.if-is_loop.false)))) program
