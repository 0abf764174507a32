use Rattle.std.proofs.Common.{◌∷◌, sym, ap, ◌∙◌, arith}
use Rattle.rvt_tree.specs.Views.{expr_view, exprs_view}
use Rattle.c_meaning.specs.Outcomes.{give}
use Rattle.c_meaning.specs.Expressions.{value_of, values_of}
use Rattle.c_meaning.specs.Runs.{stepping}
use Rattle.c_tasks.specs.Operands.{operands, with_values}
use Rattle.c_tasks.specs.Tasks.{evaluating, passing, after}
use Rattle.c_tasks.specs.Weights.{arguments_weight}
use Rattle.c_tasks.proofs.Sequences.{two_parts, becomes_then}
use Rattle.c_tasks.proofs.ValueForms.{on_ok}
use Rattle.c_tasks.proofs.work.Work.pass.Goals as goal

pub returns-in-End-clause-next : goal.returns-in-End-clause-next
returns-in-End-clause-next c =
    λ program d s. sym (ap (λ x. passing program d (exprs_view x) (after program d c.args.self.now.tasks.items) (operands c.args.self.now) s) c.in-End.is)

pub returns-in_ok-put-in-More-clause-next : goal.returns-in_ok-put-in-More-clause-next
returns-in_ok-put-in-More-clause-next c =
    on_ok c.evaluate.result (λ h. becomes_then (λ program d. passing program d (exprs_view c.in-More.rest.value)) (λ program d. evaluating program d (expr_view c.in-More.e)) (λ program d. passing program d (exprs_view c.args.arguments.now)) c.args.self.now c.evaluate.new.self c.put.new.tasks.items c.in_ok-put-in-More.ensures.next h (λ program d next on s. two_parts (value_of program (stepping program d) (expr_view c.in-More.e)) (values_of program (stepping program d) (exprs_view c.in-More.rest.value)) (λ v vs. give (v ∷ vs)) (λ vs. next (with_values vs on)) s ∙ sym (ap (λ x. passing program d (exprs_view x) next on s) c.in-More.is))) c.evaluate.ensures.next

pub returns-in_ok-put-in-More-clause-weight : goal.returns-in_ok-put-in-More-clause-weight
returns-in_ok-put-in-More-clause-weight c =
    on_ok c.evaluate.result (λ e. omega (arith, e, c.in_ok-put-in-More.ensures.weight, ap (λ x. arguments_weight (exprs_view x)) c.in-More.is)) c.evaluate.ensures.weight
