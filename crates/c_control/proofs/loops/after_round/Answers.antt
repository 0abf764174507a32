use Rattle.std.proofs.Common.{ap, ◌∙◌}
use Rattle.rvt_tree.specs.Views.{stmt_view}
use Rattle.c_meaning.specs.Outcomes.{Normally, Broke, Continued}
use Rattle.c_tasks.specs.Operands.{operands, with_manner, manner_of}
use Rattle.c_tasks.specs.Tasks.{running_part, rounded, after}
use Rattle.c_tasks.specs.declared.tasks.Part.TheVariants as P
use Rattle.c_tasks.proofs.Sequences.{becomes_with}
use Rattle.c_tasks.proofs.ValueForms.{on_ok}
use Rattle.c_control.proofs.Manners.{by_manner}
use Rattle.c_control.proofs.loops.after_round.Goals as goal

pub returns-in-Normally-clause-next : goal.returns-in-Normally-clause-next
returns-in-Normally-clause-next c =
    on_ok c.next_turn.result (λ h program law d s. h program law d s ∙ by_manner program d (rounded program d (stmt_view c.args.s.now)) Normally (after program d c.args.work.now.tasks.items) (operands c.args.work.now) s (ap manner_of c.in-Normally.is)) c.next_turn.ensures.next

pub returns-in-Continued-clause-next : goal.returns-in-Continued-clause-next
returns-in-Continued-clause-next c =
    on_ok c.next_turn-in-Continued.result (λ h program law d s. h program law d s ∙ by_manner program d (rounded program d (stmt_view c.args.s.now)) Continued (after program d c.args.work.now.tasks.items) (operands c.args.work.now) s (ap manner_of c.in-Continued.is)) c.next_turn-in-Continued.ensures.next

pub returns-in-Broke-clause-next : goal.returns-in-Broke-clause-next
returns-in-Broke-clause-next c =
    λ program law. becomes_with (λ program d. running_part program d P.After (stmt_view c.args.s.now)) c.args.work.now c.end.new.self (with_manner Normally (operands c.args.work.now)) c.end.ensures.tasks c.end.ensures.operands (λ program d next s. by_manner program d (rounded program d (stmt_view c.args.s.now)) Broke next (operands c.args.work.now) s (ap manner_of c.in-Broke.is)) program
