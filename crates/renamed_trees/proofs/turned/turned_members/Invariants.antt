use Rattle.std.proofs.Common.{◌≡◌}
use Rattle.rvt_tree.specs.Syntax.{no_initializers}
use Rattle.rvt_tree.specs.Views.{inits_view}
use Rattle.rvt_tree.specs.declared.statements.Inits.{size-Inits}
use Rattle.renamed_trees.specs.TurnedLists.{members_turned}
use Rattle.renamed_trees.proofs.turned.turned_members.Given as goal

abbrev pub invariant-loop-list : goal.invariant-loop-list
invariant-loop-list l = members_turned (inits_view l.list) (inits_view l.done) ≡ members_turned (inits_view l.fn.list) no_initializers

abbrev pub decreases-loop-list : goal.decreases-loop-list
decreases-loop-list l = size-Inits l.list
