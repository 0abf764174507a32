use Rattle.std.proofs.Common.{ap, ◌∙◌}
use Rattle.rvt_tree.specs.Views.{stmts_view}
use Rattle.c_meaning.specs.Outcomes.{Normally, Broke, Continued}
use Rattle.c_meaning.specs.Statements.{normally_then, block}
use Rattle.c_meaning.specs.Runs.{stepping}
use Rattle.c_tasks.specs.Operands.{operands, manner_of}
use Rattle.c_tasks.specs.Tasks.{after}
use Rattle.c_tasks.proofs.ValueForms.{on_ok}
use Rattle.c_control.proofs.Manners.{same_manner, by_manner}
use Rattle.c_control.proofs.branches.rest.Goals as goal

pub returns-in-Normally-clause-next : goal.returns-in-Normally-clause-next
returns-in-Normally-clause-next c =
    on_ok c.block.result (λ h program d s. h program d s ∙ by_manner program d (normally_then (block program (stepping program d) (stmts_view c.args.body.now))) Normally (after program d c.args.work.now.tasks.items) (operands c.args.work.now) s (ap manner_of c.in-Normally.is)) c.block.ensures.next

pub returns-in-Broke-clause-next : goal.returns-in-Broke-clause-next
returns-in-Broke-clause-next c =
    λ program d s. same_manner (after program d c.args.work.now.tasks.items) (operands c.args.work.now) Broke s (ap manner_of c.in-Broke.is) ∙ by_manner program d (normally_then (block program (stepping program d) (stmts_view c.args.body.now))) Broke (after program d c.args.work.now.tasks.items) (operands c.args.work.now) s (ap manner_of c.in-Broke.is)

pub returns-in-Continued-clause-next : goal.returns-in-Continued-clause-next
returns-in-Continued-clause-next c =
    λ program d s. same_manner (after program d c.args.work.now.tasks.items) (operands c.args.work.now) Continued s (ap manner_of c.in-Continued.is) ∙ by_manner program d (normally_then (block program (stepping program d) (stmts_view c.args.body.now))) Continued (after program d c.args.work.now.tasks.items) (operands c.args.work.now) s (ap manner_of c.in-Continued.is)
