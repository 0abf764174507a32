use Rattle.std.proofs.Common.{◌≡◌, ◌≤◌}
use Rattle.rvt_tree.specs.Syntax.{no_arguments}
use Rattle.rvt_tree.specs.Views.{exprs_view}
use Rattle.rvt_tree.specs.declared.expressions.Exprs.{size-Exprs}
use Rattle.renamed_trees.specs.RenamedTrees.{arguments_renamed}
use Rattle.renamed_trees.specs.Renamings.{named}
use Rattle.renamed_trees.specs.TurnedLists.{arguments_turned}
use Rattle.renamed_trees.proofs.expressions.+rename_expression.Given as goal

abbrev pub invariant-taken_arguments-loop-list : goal.invariant-taken_arguments-loop-list
invariant-taken_arguments-loop-list l = record {
  no_deeper : size-Exprs l.list ≤ size-Exprs l.initial.list;
  same_list : arguments_turned (arguments_renamed (named l.renaming) (exprs_view l.list)) (exprs_view l.done)
      ≡ arguments_turned (arguments_renamed (named l.renaming) (exprs_view l.initial.list)) no_arguments;
}

abbrev pub decreases-taken_arguments-loop-list : goal.decreases-taken_arguments-loop-list
decreases-taken_arguments-loop-list l = size-Exprs l.list
