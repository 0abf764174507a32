use Rattle.std.proofs.Common.{ap, ◌∙◌}
use Rattle.rvt_tree.specs.Views.{stmt_view}
use Rattle.c_meaning.specs.Outcomes.{and_then}
use Rattle.c_meaning.specs.Statements.{test_of}
use Rattle.c_meaning.specs.Runs.{stepping}
use Rattle.c_tasks.specs.Operands.{operands}
use Rattle.c_tasks.specs.Tasks.{ending, decided, after}
use Rattle.c_tasks.proofs.ValueForms.{on_ok}
use Rattle.c_control.proofs.loops.test.Goals as goal

pub returns-in-Some : goal.returns-in-Some
returns-in-Some c =
    record { next = on_ok c.test_value.result (λ h program law d s. h program d s ∙ ap (λ t. ending program d (and_then (test_of program (stepping program d) t) (decided program d (stmt_view c.args.s.now))) (after program d c.args.work.now.tasks.items) (operands c.args.work.now) s) c.in-Some.ensures) c.test_value.ensures.next }

pub returns-in-None : goal.returns-in-None
returns-in-None c =
    record { next = on_ok c.decide.result (λ h program law d s. h program law d s ∙ ap (λ t. ending program d (and_then (test_of program (stepping program d) t) (decided program d (stmt_view c.args.s.now))) (after program d c.args.work.now.tasks.items) (operands c.args.work.now) s) c.in-None.ensures) c.decide.ensures.next }
