use Rattle.std.proofs.Common.{◌≤◌, ◌↔◌}
use Rattle.rvt_tree.specs.Views.{exprs_view}
use Rattle.rvt_tree.specs.declared.expressions.Exprs.{size-Exprs}
use Rattle.rvt_tree.specs.Same.{SameArguments}
use Rattle.rvt_same.proofs.same.+same_expression.Given as goal

abbrev pub invariant-same_exprs-loop-left : goal.invariant-same_exprs-loop-left
invariant-same_exprs-loop-left l = record {
  no_deeper : size-Exprs l.left ≤ size-Exprs l.initial.left;
  same_answer : SameArguments l.fn.pairing (exprs_view l.left) (exprs_view l.right) ↔ SameArguments l.fn.pairing (exprs_view l.initial.left) (exprs_view l.initial.right);
}
