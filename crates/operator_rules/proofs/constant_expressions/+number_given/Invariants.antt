use Rattle.std.proofs.Common.{◌≡◌, ◌≤◌, ◌+◌, ◌*◌}
use Rattle.rvt_tree.specs.Views.{expr_view}
use Rattle.rvt_tree.specs.declared.expressions.Expr.{size-Expr}
use Rattle.expression_typing.specs.ConstantExpressions.{number_given}
use Rattle.operator_rules.specs.CastChains.{cast_back}
use Rattle.operator_rules.proofs.constant_expressions.+number_given.Given as goal

abbrev pub invariant-number_given-casts : goal.invariant-number_given-casts
invariant-number_given-casts l = record {
  no_deeper : size-Expr l.inner ≤ size-Expr l.initial.inner;
  same_number : cast_back l.kinds.items (number_given (expr_view l.inner)) ≡ number_given (expr_view l.initial.inner);
}

abbrev pub decreases-number_given : goal.decreases-number_given
decreases-number_given l = 2 * size-Expr l.e.now + 1

abbrev pub decreases-form_given : goal.decreases-form_given
decreases-form_given l = 2 * size-Expr l.e.now
