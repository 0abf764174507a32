use Rattle.std.proofs.Common.{◌≡◌, ◌≤◌, ◌++◌}
use Rattle.rvt_tree.specs.Views.{exprs_view}
use Rattle.rvt_tree.specs.declared.expressions.Exprs.{size-Exprs}
use Rattle.c_meaning.specs.Interfaces.{named_in_all}
use Rattle.loop_interfaces.proofs.named.+expression.Given as goal

-- those so far, and those that are left
abbrev pub invariant-add_in_all-loop-rest : goal.invariant-add_in_all-loop-rest
invariant-add_in_all-loop-rest l = record {
  no_deeper : size-Exprs l.rest ≤ size-Exprs l.initial.rest;
  same : l.out.items ++ named_in_all (exprs_view l.rest) ≡ l.initial.out.items ++ named_in_all (exprs_view l.initial.rest);
}
