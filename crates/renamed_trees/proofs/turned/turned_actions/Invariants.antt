use Rattle.std.proofs.Common.{◌≡◌, []}
use Rattle.rvt_tree.specs.Views.{acts_view}
use Rattle.rvt_tree.specs.declared.statements.Acts.{size-Acts}
use Rattle.renamed_trees.specs.TurnedLists.{actions_turned}
use Rattle.renamed_trees.proofs.turned.turned_actions.Given as goal

abbrev pub invariant-loop-list : goal.invariant-loop-list
invariant-loop-list l = actions_turned (acts_view l.list) (acts_view l.done) ≡ actions_turned (acts_view l.fn.list) []

abbrev pub decreases-loop-list : goal.decreases-loop-list
decreases-loop-list l = size-Acts l.list
