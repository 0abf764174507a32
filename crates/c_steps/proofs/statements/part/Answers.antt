use Rattle.std.proofs.Common.{sym, ap, ◌∙◌, arith}
use Rattle.rvt_tree.specs.Views.{stmt_view}
use Rattle.c_tasks.specs.Operands.{operands}
use Rattle.c_tasks.specs.Tasks.{after, running_part}
use Rattle.c_tasks.specs.Weights.{part_weight}
use Rattle.c_steps.specs.Steps.{with_left}
use Rattle.c_steps.proofs.Moves.{going, if_ok}
use Rattle.c_steps.proofs.statements.part.Goals as goal

pub returns-in-Whole-clause-next : goal.returns-in-Whole-clause-next
returns-in-Whole-clause-next c =
    if_ok c.statement.result (λ progress h d left. h d left ∙ sym (ap (λ p. running_part c.args.layouts.now d p (stmt_view c.args.s.now) (after c.args.layouts.now d c.args.work.now.tasks.items) (operands c.args.work.now) (with_left c.args.cells.now left)) c.in-Whole.is)) c.statement.ensures.next

pub returns-in-Whole-clause-weight : goal.returns-in-Whole-clause-weight
returns-in-Whole-clause-weight c =
    if_ok c.statement.result (λ progress h. omega (arith, h, ap (λ p. part_weight p (stmt_view c.args.s.now)) c.in-Whole.is)) c.statement.ensures.weight

pub returns-in-Test-clause-next : goal.returns-in-Test-clause-next
returns-in-Test-clause-next c =
    λ d left. sym (ap (λ p. running_part c.args.layouts.now d p (stmt_view c.args.s.now) (after c.args.layouts.now d c.args.work.now.tasks.items) (operands c.args.work.now) (with_left c.args.cells.now left)) c.in-Test.is)

pub returns-in-Test-clause-weight : goal.returns-in-Test-clause-weight
returns-in-Test-clause-weight c =
    omega (arith, ap (λ p. part_weight p (stmt_view c.args.s.now)) c.in-Test.is)

pub returns-in-Decide-clause-next : goal.returns-in-Decide-clause-next
returns-in-Decide-clause-next c =
    going _ c.decide.result c.goes_on.result c.goes_on.ensures (λ h d left. h d (with_left c.args.cells.now left) ∙ sym (ap (λ p. running_part c.args.layouts.now d p (stmt_view c.args.s.now) (after c.args.layouts.now d c.args.work.now.tasks.items) (operands c.args.work.now) (with_left c.args.cells.now left)) c.in-Decide.is)) c.decide.ensures.next

pub returns-in-Decide-clause-weight : goal.returns-in-Decide-clause-weight
returns-in-Decide-clause-weight c =
    going _ c.decide.result c.goes_on.result c.goes_on.ensures (λ h. omega (arith, h, ap (λ p. part_weight p (stmt_view c.args.s.now)) c.in-Decide.is)) c.decide.ensures.weight

pub returns-in-Last-clause-next : goal.returns-in-Last-clause-next
returns-in-Last-clause-next c =
    going _ c.last.result c.goes_on-in-Last.result c.goes_on-in-Last.ensures (λ h d left. h c.args.layouts.now d (with_left c.args.cells.now left) ∙ sym (ap (λ p. running_part c.args.layouts.now d p (stmt_view c.args.s.now) (after c.args.layouts.now d c.args.work.now.tasks.items) (operands c.args.work.now) (with_left c.args.cells.now left)) c.in-Last.is)) c.last.ensures.next

pub returns-in-Last-clause-weight : goal.returns-in-Last-clause-weight
returns-in-Last-clause-weight c =
    going _ c.last.result c.goes_on-in-Last.result c.goes_on-in-Last.ensures (λ h. omega (arith, h, ap (λ p. part_weight p (stmt_view c.args.s.now)) c.in-Last.is)) c.last.ensures.weight

pub returns-in-After-clause-next : goal.returns-in-After-clause-next
returns-in-After-clause-next c =
    going _ c.after_round.result c.goes_on-in-After.result c.goes_on-in-After.ensures (λ h d left. h d (with_left c.args.cells.now left) ∙ sym (ap (λ p. running_part c.args.layouts.now d p (stmt_view c.args.s.now) (after c.args.layouts.now d c.args.work.now.tasks.items) (operands c.args.work.now) (with_left c.args.cells.now left)) c.in-After.is)) c.after_round.ensures.next

pub returns-in-After-clause-weight : goal.returns-in-After-clause-weight
returns-in-After-clause-weight c =
    going _ c.after_round.result c.goes_on-in-After.result c.goes_on-in-After.ensures (λ h. omega (arith, h, ap (λ p. part_weight p (stmt_view c.args.s.now)) c.in-After.is)) c.after_round.ensures.weight
