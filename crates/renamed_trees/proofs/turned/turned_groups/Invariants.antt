use Rattle.std.proofs.Common.{◌≡◌}
use Rattle.rvt_tree.specs.Syntax.{no_groups}
use Rattle.rvt_tree.specs.Views.{groups_view}
use Rattle.rvt_tree.specs.declared.statements.Groups.{size-Groups}
use Rattle.renamed_trees.specs.TurnedLists.{groups_turned}
use Rattle.renamed_trees.proofs.turned.turned_groups.Given as goal

abbrev pub invariant-loop-list : goal.invariant-loop-list
invariant-loop-list l = groups_turned (groups_view l.list) (groups_view l.done) ≡ groups_turned (groups_view l.fn.list) no_groups

abbrev pub decreases-loop-list : goal.decreases-loop-list
decreases-loop-list l = size-Groups l.list
