use Rattle.std.proofs.Common.{sym, ap, ◌∙◌}
use Rattle.rvt_tree.specs.Views.{stmt_view}
use Rattle.c_meaning.specs.Outcomes.{Normally}
use Rattle.c_tasks.specs.Operands.{operands, with_manner}
use Rattle.c_tasks.specs.Tasks.{ending, decided, after}
use Rattle.c_tasks.proofs.Sequences.{becomes_with}
use Rattle.c_tasks.proofs.ValueForms.{on_ok}
use Rattle.c_control.proofs.loops.decide.Goals as goal

pub returns-then-holds-clause-next : goal.returns-then-holds-clause-next
returns-then-holds-clause-next c =
    on_ok c.go_round.result (λ h program law d s. h program law d s ∙ sym (ap (λ b. ending program d (decided program d (stmt_view c.args.s.now) b) (after program d c.args.work.now.tasks.items) (operands c.args.work.now) s) c.if-holds.true)) c.go_round.ensures.next

pub returns-else-holds-clause-next : goal.returns-else-holds-clause-next
returns-else-holds-clause-next c =
    λ program law. becomes_with (λ program d. ending program d (decided program d (stmt_view c.args.s.now) c.args.holds)) c.args.work.now c.end.new.self (with_manner Normally (operands c.args.work.now)) c.end.ensures.tasks c.end.ensures.operands (λ program d next s. sym (ap (λ b. ending program d (decided program d (stmt_view c.args.s.now) b) next (operands c.args.work.now) s) c.if-holds.false)) program
