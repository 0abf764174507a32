use Rattle.std.proofs.Common.{◌≡◌, []}
use Rattle.rvt_tree.specs.Views.{acts_view}
use Rattle.rvt_tree.specs.declared.statements.Acts.{size-Acts}
use Rattle.renamed_trees.specs.RenamedTrees.{actions_renamed}
use Rattle.renamed_trees.specs.Renamings.{named}
use Rattle.renamed_trees.specs.TurnedLists.{actions_turned}
use Rattle.renamed_trees.proofs.actions.taken_actions.Given as goal

abbrev pub invariant-loop-list : goal.invariant-loop-list
invariant-loop-list l =
    actions_turned (actions_renamed (named l.renaming) (acts_view l.list)) (acts_view l.done)
    ≡ actions_turned (actions_renamed (named l.renaming) (acts_view l.initial.list)) []

abbrev pub decreases-loop-list : goal.decreases-loop-list
decreases-loop-list l = size-Acts l.list
