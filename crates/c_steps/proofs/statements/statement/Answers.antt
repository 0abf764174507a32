use Rattle.std.proofs.Common.{refl, sym, ap, subst, ◌∙◌, arith}
use Rattle.rvt_tree.specs.Syntax.{null_statement, break_statement, continue_statement}
use Rattle.std.specs.Bool.{IsTrue}
use Rattle.rvt_tree.specs.Views.{stmt_view}
use Rattle.c_meaning.specs.Outcomes.{Normally, Broke, Continued}
use Rattle.c_tasks.specs.Operands.{operands, with_manner}
use Rattle.c_tasks.specs.Tasks.{after, running_statement}
use Rattle.c_tasks.specs.Weights.{tasks_weight, statement_weight}
use Rattle.c_control.specs.Loops.{is_loop}
use Rattle.c_steps.specs.Steps.{with_left}
use Rattle.c_steps.proofs.Moves.{becomes_with, going}
use Rattle.c_steps.proofs.statements.statement.Goals as goal

pub returns-in-Declare-clause-next : goal.returns-in-Declare-clause-next
returns-in-Declare-clause-next c =
    λ d left. c.declare.ensures.next d left ∙ sym (ap (λ t. running_statement c.args.layouts.now d (stmt_view t) (after c.args.layouts.now d c.args.work.now.tasks.items) (operands c.args.work.now) (with_left c.args.cells.now left)) c.in-Declare.is)

pub returns-in-Declare-clause-weight : goal.returns-in-Declare-clause-weight
returns-in-Declare-clause-weight c =
    omega (arith, ap tasks_weight c.declare.ensures.tasks, ap (λ t. statement_weight (stmt_view t)) c.in-Declare.is)

pub returns-in-DeclareWith-clause-next : goal.returns-in-DeclareWith-clause-next
returns-in-DeclareWith-clause-next c =
    λ d left. sym (ap (λ t. running_statement c.args.layouts.now d (stmt_view t) (after c.args.layouts.now d c.args.work.now.tasks.items) (operands c.args.work.now) (with_left c.args.cells.now left)) c.in-DeclareWith.is)

pub returns-in-DeclareWith-clause-weight : goal.returns-in-DeclareWith-clause-weight
returns-in-DeclareWith-clause-weight c =
    omega (arith, ap (λ t. statement_weight (stmt_view t)) c.in-DeclareWith.is)

pub returns-in-Return-clause-next : goal.returns-in-Return-clause-next
returns-in-Return-clause-next c =
    λ d left. sym (ap (λ t. running_statement c.args.layouts.now d (stmt_view t) (after c.args.layouts.now d c.args.work.now.tasks.items) (operands c.args.work.now) (with_left c.args.cells.now left)) c.in-Return.is)

pub returns-in-Return-clause-weight : goal.returns-in-Return-clause-weight
returns-in-Return-clause-weight c =
    omega (arith, ap (λ t. statement_weight (stmt_view t)) c.in-Return.is)

pub returns-in-Empty-clause-next : goal.returns-in-Empty-clause-next
returns-in-Empty-clause-next c =
    λ d left. becomes_with (λ program d. running_statement program d null_statement) c.args.work.now c.end.new.self (with_manner Normally (operands c.args.work.now)) c.end.ensures.tasks c.end.ensures.operands (λ program d next s. refl) c.args.layouts.now d (with_left c.args.cells.now left) ∙ sym (ap (λ t. running_statement c.args.layouts.now d (stmt_view t) (after c.args.layouts.now d c.args.work.now.tasks.items) (operands c.args.work.now) (with_left c.args.cells.now left)) c.in-Empty.is)

pub returns-in-Empty-clause-weight : goal.returns-in-Empty-clause-weight
returns-in-Empty-clause-weight c =
    omega (arith, ap tasks_weight c.end.ensures.tasks, ap (λ t. statement_weight (stmt_view t)) c.in-Empty.is)

pub returns-in-Break-clause-next : goal.returns-in-Break-clause-next
returns-in-Break-clause-next c =
    λ d left. becomes_with (λ program d. running_statement program d break_statement) c.args.work.now c.end-in-Break.new.self (with_manner Broke (operands c.args.work.now)) c.end-in-Break.ensures.tasks c.end-in-Break.ensures.operands (λ program d next s. refl) c.args.layouts.now d (with_left c.args.cells.now left) ∙ sym (ap (λ t. running_statement c.args.layouts.now d (stmt_view t) (after c.args.layouts.now d c.args.work.now.tasks.items) (operands c.args.work.now) (with_left c.args.cells.now left)) c.in-Break.is)

pub returns-in-Break-clause-weight : goal.returns-in-Break-clause-weight
returns-in-Break-clause-weight c =
    omega (arith, ap tasks_weight c.end-in-Break.ensures.tasks, ap (λ t. statement_weight (stmt_view t)) c.in-Break.is)

pub returns-in-Continue-clause-next : goal.returns-in-Continue-clause-next
returns-in-Continue-clause-next c =
    λ d left. becomes_with (λ program d. running_statement program d continue_statement) c.args.work.now c.end-in-Continue.new.self (with_manner Continued (operands c.args.work.now)) c.end-in-Continue.ensures.tasks c.end-in-Continue.ensures.operands (λ program d next s. refl) c.args.layouts.now d (with_left c.args.cells.now left) ∙ sym (ap (λ t. running_statement c.args.layouts.now d (stmt_view t) (after c.args.layouts.now d c.args.work.now.tasks.items) (operands c.args.work.now) (with_left c.args.cells.now left)) c.in-Continue.is)

pub returns-in-Continue-clause-weight : goal.returns-in-Continue-clause-weight
returns-in-Continue-clause-weight c =
    omega (arith, ap tasks_weight c.end-in-Continue.ensures.tasks, ap (λ t. statement_weight (stmt_view t)) c.in-Continue.is)

pub returns-in-Block-clause-next : goal.returns-in-Block-clause-next
returns-in-Block-clause-next c =
    going _ c.scope.result c.goes_on.result c.goes_on.ensures (λ h d left. h c.args.layouts.now d (with_left c.args.cells.now left) ∙ sym (ap (λ t. running_statement c.args.layouts.now d (stmt_view t) (after c.args.layouts.now d c.args.work.now.tasks.items) (operands c.args.work.now) (with_left c.args.cells.now left)) c.in-Block.is)) c.scope.ensures.next

pub returns-in-Block-clause-weight : goal.returns-in-Block-clause-weight
returns-in-Block-clause-weight c =
    going _ c.scope.result c.goes_on.result c.goes_on.ensures (λ h. omega (arith, h, ap (λ t. statement_weight (stmt_view t)) c.in-Block.is)) c.scope.ensures.weight

pub returns-in-Act-clause-next : goal.returns-in-Act-clause-next
returns-in-Act-clause-next c =
    going _ c.finish_act.result c.goes_on-in-Act.result c.goes_on-in-Act.ensures (λ h d left. h c.args.layouts.now d (with_left c.args.cells.now left) ∙ sym (ap (λ t. running_statement c.args.layouts.now d (stmt_view t) (after c.args.layouts.now d c.args.work.now.tasks.items) (operands c.args.work.now) (with_left c.args.cells.now left)) c.in-Act.is)) c.finish_act.ensures.next

pub returns-in-Act-clause-weight : goal.returns-in-Act-clause-weight
returns-in-Act-clause-weight c =
    going _ c.finish_act.result c.goes_on-in-Act.result c.goes_on-in-Act.ensures (λ h. omega (arith, h, ap (λ t. statement_weight (stmt_view t)) c.in-Act.is)) c.finish_act.ensures.weight

pub returns-in-ReturnValue-clause-next : goal.returns-in-ReturnValue-clause-next
returns-in-ReturnValue-clause-next c =
    going _ c.return_value.result c.goes_on-in-ReturnValue.result c.goes_on-in-ReturnValue.ensures (λ h d left. h c.args.layouts.now d (with_left c.args.cells.now left) ∙ sym (ap (λ t. running_statement c.args.layouts.now d (stmt_view t) (after c.args.layouts.now d c.args.work.now.tasks.items) (operands c.args.work.now) (with_left c.args.cells.now left)) c.in-ReturnValue.is)) c.return_value.ensures.next

pub returns-in-ReturnValue-clause-weight : goal.returns-in-ReturnValue-clause-weight
returns-in-ReturnValue-clause-weight c =
    going _ c.return_value.result c.goes_on-in-ReturnValue.result c.goes_on-in-ReturnValue.ensures (λ h. omega (arith, h, ap (λ t. statement_weight (stmt_view t)) c.in-ReturnValue.is)) c.return_value.ensures.weight

pub returns-in-If-clause-next : goal.returns-in-If-clause-next
returns-in-If-clause-next c =
    going _ c.begin_if.result c.goes_on-in-If.result c.goes_on-in-If.ensures (λ h d left. h c.args.layouts.now d (with_left c.args.cells.now left) ∙ sym (ap (λ t. running_statement c.args.layouts.now d (stmt_view t) (after c.args.layouts.now d c.args.work.now.tasks.items) (operands c.args.work.now) (with_left c.args.cells.now left)) c.in-If.is)) c.begin_if.ensures.next

pub returns-in-If-clause-weight : goal.returns-in-If-clause-weight
returns-in-If-clause-weight c =
    going _ c.begin_if.result c.goes_on-in-If.result c.goes_on-in-If.ensures (λ h. omega (arith, h, ap (λ t. statement_weight (stmt_view t)) c.in-If.is)) c.begin_if.ensures.weight

pub returns-in-IfElse-clause-next : goal.returns-in-IfElse-clause-next
returns-in-IfElse-clause-next c =
    going _ c.begin_if_else.result c.goes_on-in-IfElse.result c.goes_on-in-IfElse.ensures (λ h d left. h c.args.layouts.now d (with_left c.args.cells.now left) ∙ sym (ap (λ t. running_statement c.args.layouts.now d (stmt_view t) (after c.args.layouts.now d c.args.work.now.tasks.items) (operands c.args.work.now) (with_left c.args.cells.now left)) c.in-IfElse.is)) c.begin_if_else.ensures.next

pub returns-in-IfElse-clause-weight : goal.returns-in-IfElse-clause-weight
returns-in-IfElse-clause-weight c =
    going _ c.begin_if_else.result c.goes_on-in-IfElse.result c.goes_on-in-IfElse.ensures (λ h. omega (arith, h, ap (λ t. statement_weight (stmt_view t)) c.in-IfElse.is)) c.begin_if_else.ensures.weight

pub returns-in-While-clause-next : goal.returns-in-While-clause-next
returns-in-While-clause-next c =
    going _ c.begin_loop.result c.goes_on-in-While.result c.goes_on-in-While.ensures (λ h d left. h d (with_left c.args.cells.now left)) c.begin_loop.ensures.next

pub returns-in-While-clause-weight : goal.returns-in-While-clause-weight
returns-in-While-clause-weight c =
    going _ c.begin_loop.result c.goes_on-in-While.result c.goes_on-in-While.ensures (λ h. omega (arith, h)) c.begin_loop.ensures.weight

pub returns-in-DoWhile-clause-next : goal.returns-in-DoWhile-clause-next
returns-in-DoWhile-clause-next c =
    going _ c.begin_loop-in-DoWhile.result c.goes_on-in-DoWhile.result c.goes_on-in-DoWhile.ensures (λ h d left. h d (with_left c.args.cells.now left)) c.begin_loop-in-DoWhile.ensures.next

pub returns-in-DoWhile-clause-weight : goal.returns-in-DoWhile-clause-weight
returns-in-DoWhile-clause-weight c =
    going _ c.begin_loop-in-DoWhile.result c.goes_on-in-DoWhile.result c.goes_on-in-DoWhile.ensures (λ h. omega (arith, h)) c.begin_loop-in-DoWhile.ensures.weight

pub returns-in-For-clause-next : goal.returns-in-For-clause-next
returns-in-For-clause-next c =
    going _ c.begin_loop-in-For.result c.goes_on-in-For.result c.goes_on-in-For.ensures (λ h d left. h d (with_left c.args.cells.now left)) c.begin_loop-in-For.ensures.next

pub returns-in-For-clause-weight : goal.returns-in-For-clause-weight
returns-in-For-clause-weight c =
    going _ c.begin_loop-in-For.result c.goes_on-in-For.result c.goes_on-in-For.ensures (λ h. omega (arith, h)) c.begin_loop-in-For.ensures.weight

pub returns-in-Switch-clause-next : goal.returns-in-Switch-clause-next
returns-in-Switch-clause-next c =
    going _ c.begin_switch.result c.goes_on-in-Switch.result c.goes_on-in-Switch.ensures (λ h d left. h c.args.layouts.now d (with_left c.args.cells.now left) ∙ sym (ap (λ t. running_statement c.args.layouts.now d (stmt_view t) (after c.args.layouts.now d c.args.work.now.tasks.items) (operands c.args.work.now) (with_left c.args.cells.now left)) c.in-Switch.is)) c.begin_switch.ensures.next

pub returns-in-Switch-clause-weight : goal.returns-in-Switch-clause-weight
returns-in-Switch-clause-weight c =
    going _ c.begin_switch.result c.goes_on-in-Switch.result c.goes_on-in-Switch.ensures (λ h. omega (arith, h, ap (λ t. statement_weight (stmt_view t)) c.in-Switch.is)) c.begin_switch.ensures.weight

pub begin_loop-requires : goal.begin_loop-requires
begin_loop-requires c =
    record { loop_statement = subst (λ s. IsTrue (is_loop (stmt_view s))) (sym c.in-While.is) refl }

pub begin_loop-requires-in-DoWhile : goal.begin_loop-requires-in-DoWhile
begin_loop-requires-in-DoWhile c =
    record { loop_statement = subst (λ s. IsTrue (is_loop (stmt_view s))) (sym c.in-DoWhile.is) refl }

pub begin_loop-requires-in-For : goal.begin_loop-requires-in-For
begin_loop-requires-in-For c =
    record { loop_statement = subst (λ s. IsTrue (is_loop (stmt_view s))) (sym c.in-For.is) refl }
