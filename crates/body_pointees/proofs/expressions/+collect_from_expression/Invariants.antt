use Rattle.std.proofs.Common.{◌≡◌, ◌++◌, ◌≤◌}
use Rattle.rvt_tree.specs.Views.{exprs_view}
use Rattle.rvt_tree.specs.declared.expressions.Exprs.{size-Exprs}
use Rattle.body_pointees.specs.Pointees.{arguments_pointees}
use Rattle.body_pointees.proofs.expressions.+collect_from_expression.Given as goal

abbrev pub invariant-collect_from_arguments-loop-rest : goal.invariant-collect_from_arguments-loop-rest
invariant-collect_from_arguments-loop-rest l = record {
  no_deeper : size-Exprs l.rest ≤ size-Exprs l.initial.rest;
  collected : l.into.items ++ arguments_pointees (exprs_view l.rest) ≡ l.initial.into.items ++ arguments_pointees (exprs_view l.initial.rest);
}

abbrev pub decreases-collect_from_arguments-loop-rest : goal.decreases-collect_from_arguments-loop-rest
decreases-collect_from_arguments-loop-rest l = size-Exprs l.rest
