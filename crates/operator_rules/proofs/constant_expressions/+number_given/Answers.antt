use Rattle.std.proofs.Common.{ap, arith}
use Rattle.rvt_tree.specs.declared.expressions.Expr.{size-Expr}
use Rattle.operator_rules.proofs.CastDepths.{cast_no_deeper}
use Rattle.rvt_tree.specs.Views.{expr_view}
use Rattle.operator_rules.proofs.FormsGiven.{binary_given, and_given, or_given, choice_given}
use Rattle.operator_rules.proofs.CastsGiven.{one_cast_further}
use Rattle.operator_rules.proofs.constant_expressions.+number_given.Goals as goal

pub form_given-returns-in_ok-number-in-Binary : goal.form_given-returns-in_ok-number-in-Binary
form_given-returns-in_ok-number-in-Binary t c =
    binary_given _ _ _ _ _ _ _ _ (ap expr_view c.deref-in-Binary.ensures) (ap expr_view c.deref-in-Binary-2.ensures)
    c.in_ok-x-in-Binary.ensures c.in_ok-y-in-Binary.ensures _ (ap expr_view c.in-Binary.is) c.in_ok-number-in-Binary.ensures

pub form_given-returns-in_ok-y-in-Both : goal.form_given-returns-in_ok-y-in-Both
form_given-returns-in_ok-y-in-Both t c =
    and_given _ _ _ _ _ _ _ _ (ap expr_view c.deref-in-Both.ensures) (ap expr_view c.deref-in-Both-2.ensures)
    c.in_ok-x-in-Both.ensures c.in_ok-y-in-Both.ensures (ap expr_view c.in-Both.is) c.logical_and.ensures

pub form_given-returns-in_ok-y-in-Either : goal.form_given-returns-in_ok-y-in-Either
form_given-returns-in_ok-y-in-Either t c =
    or_given _ _ _ _ _ _ _ _ (ap expr_view c.deref-in-Either.ensures) (ap expr_view c.deref-in-Either-2.ensures)
    c.in_ok-x-in-Either.ensures c.in_ok-y-in-Either.ensures (ap expr_view c.in-Either.is) c.logical_or.ensures

pub form_given-returns-in_ok-y-in-Choice : goal.form_given-returns-in_ok-y-in-Choice
form_given-returns-in_ok-y-in-Choice t c =
    choice_given _ _ _ _ _ _ _ _ (ap expr_view c.deref-in-Choice-2.ensures) (ap expr_view c.deref-in-Choice-3.ensures)
    c.in_ok-x-in-Choice.ensures c.in_ok-y-in-Choice.ensures _ _ _ (ap expr_view c.deref-in-Choice.ensures) c.in_ok-condition-in-Choice.ensures
    (ap expr_view c.in-Choice.is) c.conditional.ensures

pub number_given-casts-preserved : goal.number_given-casts-preserved
number_given-casts-preserved t c = record {
  no_deeper = omega (arith, ap size-Expr c.deref-inner.ensures, cast_no_deeper _ _ _ c.in-Cast.is, c.casts.invariant.no_deeper);
  same_number = rw (c.in_ok-put.ensures, c.deref-inner.ensures) (one_cast_further c.casts.kinds.items (expr_view c.args.e.now) (expr_view c.casts.inner.now) (expr_view c.in-Cast.operand.value) c.in-Cast.kind c.casts.invariant.same_number (ap expr_view c.in-Cast.is));
}
