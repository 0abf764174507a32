use Rattle.std.proofs.Common.{◌≡◌, ◌≤◌}
use Rattle.rvt_tree.specs.Views.{expr_view}
use Rattle.rvt_tree.specs.declared.expressions.Expr.{size-Expr}
use Rattle.expression_typing.specs.ConstantExpressions.{is_built_of_constants}
use Rattle.operator_rules.proofs.constant_expressions.+is_built_of_constants.Given as goal

abbrev pub invariant-casts : goal.invariant-casts
invariant-casts l = record {
  no_deeper : size-Expr l.inner ≤ size-Expr l.initial.inner;
  same_answer : is_built_of_constants (expr_view l.inner) ≡ is_built_of_constants (expr_view l.initial.inner);
}
