use Rattle.std.proofs.Common.{ap, ◌∙◌}
use Rattle.rvt_tree.specs.Views.{stmt_view}
use Rattle.c_meaning.specs.Outcomes.{Normally, Broke, Continued}
use Rattle.c_meaning.specs.Statements.{after_body, acts}
use Rattle.c_meaning.specs.Runs.{stepping}
use Rattle.c_tasks.specs.Operands.{operands, manner_of}
use Rattle.c_tasks.specs.Tasks.{last_in, after}
use Rattle.c_tasks.proofs.ValueForms.{on_ok}
use Rattle.c_control.proofs.Manners.{same_manner, by_manner}
use Rattle.c_control.proofs.loops.last.Goals as goal

pub returns-in-Normally-clause-next : goal.returns-in-Normally-clause-next
returns-in-Normally-clause-next c =
    on_ok c.last_acts.result (λ h program d s. h program d s ∙ by_manner program d (after_body (acts program (stepping program d) (last_in (stmt_view c.args.s.now)))) Normally (after program d c.args.work.now.tasks.items) (operands c.args.work.now) s (ap manner_of c.in-Normally.is)) c.last_acts.ensures.next

pub returns-in-Continued-clause-next : goal.returns-in-Continued-clause-next
returns-in-Continued-clause-next c =
    on_ok c.last_acts-in-Continued.result (λ h program d s. h program d s ∙ by_manner program d (after_body (acts program (stepping program d) (last_in (stmt_view c.args.s.now)))) Continued (after program d c.args.work.now.tasks.items) (operands c.args.work.now) s (ap manner_of c.in-Continued.is)) c.last_acts-in-Continued.ensures.next

pub returns-in-Broke-clause-next : goal.returns-in-Broke-clause-next
returns-in-Broke-clause-next c =
    λ program d s. same_manner (after program d c.args.work.now.tasks.items) (operands c.args.work.now) Broke s (ap manner_of c.in-Broke.is) ∙ by_manner program d (after_body (acts program (stepping program d) (last_in (stmt_view c.args.s.now)))) Broke (after program d c.args.work.now.tasks.items) (operands c.args.work.now) s (ap manner_of c.in-Broke.is)
