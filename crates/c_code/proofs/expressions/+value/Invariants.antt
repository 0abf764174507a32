use Rattle.std.proofs.Common.{◌≡◌, ◌++◌, ◌≤◌, ◌+◌, ◌*◌}
use Rattle.rvt_tree.specs.Views.{exprs_view}
use Rattle.rvt_tree.specs.declared.expressions.Lvalue.{size-Lvalue}
use Rattle.rvt_tree.specs.declared.expressions.Expr.{size-Expr}
use Rattle.rvt_tree.specs.declared.expressions.Exprs.{size-Exprs}
use Rattle.c_code.specs.Expressions.{argument_count, arguments_code}
use Rattle.c_code.proofs.expressions.+value.Given as goal

-- what was emitted, with what is left
abbrev pub invariant-arguments-arguments : goal.invariant-arguments-arguments
invariant-arguments-arguments l = record {
  no_deeper : size-Exprs l.left ≤ size-Exprs l.initial.left;
  emitted : l.code.items ++ arguments_code (exprs_view l.left) l.slot l.place ≡ l.initial.code.items ++ arguments_code (exprs_view l.initial.left) l.initial.slot l.place;
  counted : l.count + argument_count (exprs_view l.left) ≡ argument_count (exprs_view l.initial.left);
}

abbrev pub decreases-arguments-arguments : goal.decreases-arguments-arguments
decreases-arguments-arguments l = size-Exprs l.left

-- how deep the tree is that each walks; among those that walk the same tree, the caller first

abbrev pub decreases-locate : goal.decreases-locate
decreases-locate l = 3 * size-Lvalue l.lvalue.now

abbrev pub decreases-address : goal.decreases-address
decreases-address l = 3 * size-Lvalue l.lvalue.now

abbrev pub decreases-value : goal.decreases-value
decreases-value l = 3 * size-Expr l.e.now

abbrev pub decreases-read : goal.decreases-read
decreases-read l = 3 * size-Lvalue l.lvalue.now.value + 1

abbrev pub decreases-decay : goal.decreases-decay
decreases-decay l = 3 * size-Lvalue l.lvalue.now.value + 1

abbrev pub decreases-one : goal.decreases-one
decreases-one l = 3 * size-Expr l.a.now.value + 1

abbrev pub decreases-second : goal.decreases-second
decreases-second l = 3 * size-Expr l.b.now.value + 1

abbrev pub decreases-both : goal.decreases-both
decreases-both l = 3 * size-Expr l.b.now.value + 2

abbrev pub decreases-either : goal.decreases-either
decreases-either l = 3 * size-Expr l.b.now.value + 2

abbrev pub decreases-arguments : goal.decreases-arguments
decreases-arguments l = 3 * size-Exprs l.list.now
