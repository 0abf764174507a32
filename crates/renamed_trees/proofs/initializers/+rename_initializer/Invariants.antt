use Rattle.std.proofs.Common.{◌≡◌, ◌≤◌}
use Rattle.rvt_tree.specs.Syntax.{no_initializers}
use Rattle.rvt_tree.specs.Views.{inits_view}
use Rattle.rvt_tree.specs.declared.statements.Inits.{size-Inits}
use Rattle.renamed_trees.specs.RenamedTrees.{members_renamed}
use Rattle.renamed_trees.specs.Renamings.{named}
use Rattle.renamed_trees.specs.TurnedLists.{members_turned}
use Rattle.renamed_trees.proofs.initializers.+rename_initializer.Given as goal

abbrev pub invariant-taken_members-loop-list : goal.invariant-taken_members-loop-list
invariant-taken_members-loop-list l = record {
  no_deeper : size-Inits l.list ≤ size-Inits l.initial.list;
  same_list : members_turned (members_renamed (named l.renaming) (inits_view l.list)) (inits_view l.done)
      ≡ members_turned (members_renamed (named l.renaming) (inits_view l.initial.list)) no_initializers;
}

abbrev pub decreases-taken_members-loop-list : goal.decreases-taken_members-loop-list
decreases-taken_members-loop-list l = size-Inits l.list
