use Rattle.std.proofs.Common.{sym, ap, subst, ◌∙◌, arith, if◌then◌else◌}
use Rattle.rvt_tree.specs.Views.{expr_view}
use Rattle.c_meaning.specs.Outcomes.{and_then}
use Rattle.c_meaning.specs.Stores.{holds}
use Rattle.c_meaning.specs.Expressions.{value_of}
use Rattle.c_meaning.specs.Runs.{stepping}
use Rattle.c_tasks.specs.Operands.{operands, with_value, without_value}
use Rattle.c_tasks.specs.Tasks.{evaluating, Becomes, step}
use Rattle.c_tasks.specs.Weights.{tasks_weight, expression_weight}
use Rattle.c_tasks.specs.declared.tasks.Task.TheVariants as T
use Rattle.c_steps.proofs.Moves.{becomes_from}
use Rattle.c_steps.proofs.choices.choose.Goals as goal

pub returns-then-test-clause-next : goal.returns-then-test-clause-next
returns-then-test-clause-next c =
    becomes_from (λ program d. evaluating program d (expr_view c.args.first.now.value)) (λ program d. step program d (T.Choose c.args.first c.args.second)) c.args.work.now c.take_value.new.self c.evaluate.new.self (without_value (operands c.args.work.now)) c.take_value.ensures.tasks c.take_value.ensures.operands (λ program d next s. ap (λ b. and_then (if b then value_of program (stepping program d) (expr_view c.args.first.now.value) else value_of program (stepping program d) (expr_view c.args.second.now.value)) (λ v. next (with_value v (without_value (operands c.args.work.now)))) s) (sym c.if-test.true ∙ c.holds-test.ensures ∙ ap holds c.take_value.ensures.value)) (subst (λ x. Becomes (λ program d. evaluating program d (expr_view x)) c.take_value.new.self c.evaluate.new.self) c.deref.ensures c.in_ok-evaluate.ensures.next)

pub returns-then-test-clause-weight : goal.returns-then-test-clause-weight
returns-then-test-clause-weight c =
    omega (arith, c.in_ok-evaluate.ensures.weight, ap tasks_weight c.take_value.ensures.tasks, ap (λ x. expression_weight (expr_view x)) c.deref.ensures)

pub returns-clause-next : goal.returns-clause-next
returns-clause-next c =
    becomes_from (λ program d. evaluating program d (expr_view c.args.second.now.value)) (λ program d. step program d (T.Choose c.args.first c.args.second)) c.args.work.now c.take_value.new.self c.evaluate-2.new.self (without_value (operands c.args.work.now)) c.take_value.ensures.tasks c.take_value.ensures.operands (λ program d next s. ap (λ b. and_then (if b then value_of program (stepping program d) (expr_view c.args.first.now.value) else value_of program (stepping program d) (expr_view c.args.second.now.value)) (λ v. next (with_value v (without_value (operands c.args.work.now)))) s) (sym c.if-test.false ∙ c.holds-test.ensures ∙ ap holds c.take_value.ensures.value)) (subst (λ x. Becomes (λ program d. evaluating program d (expr_view x)) c.take_value.new.self c.evaluate-2.new.self) c.deref-2.ensures c.in_ok-evaluate-2.ensures.next)

pub returns-clause-weight : goal.returns-clause-weight
returns-clause-weight c =
    omega (arith, c.in_ok-evaluate-2.ensures.weight, ap tasks_weight c.take_value.ensures.tasks, ap (λ x. expression_weight (expr_view x)) c.deref-2.ensures)
