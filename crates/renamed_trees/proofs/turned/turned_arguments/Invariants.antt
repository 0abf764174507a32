use Rattle.std.proofs.Common.{◌≡◌}
use Rattle.rvt_tree.specs.Syntax.{no_arguments}
use Rattle.rvt_tree.specs.Views.{exprs_view}
use Rattle.rvt_tree.specs.declared.expressions.Exprs.{size-Exprs}
use Rattle.renamed_trees.specs.TurnedLists.{arguments_turned}
use Rattle.renamed_trees.proofs.turned.turned_arguments.Given as goal

abbrev pub invariant-loop-list : goal.invariant-loop-list
invariant-loop-list l = arguments_turned (exprs_view l.list) (exprs_view l.done) ≡ arguments_turned (exprs_view l.fn.list) no_arguments

abbrev pub decreases-loop-list : goal.decreases-loop-list
decreases-loop-list l = size-Exprs l.list
