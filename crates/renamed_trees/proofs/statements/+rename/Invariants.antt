use Rattle.std.proofs.Common.{◌≡◌, ◌≤◌}
use Rattle.rvt_tree.specs.Syntax.{no_statements, no_groups}
use Rattle.rvt_tree.specs.Views.{stmts_view, groups_view}
use Rattle.rvt_tree.specs.declared.statements.Stmts.{size-Stmts}
use Rattle.rvt_tree.specs.declared.statements.Groups.{size-Groups}
use Rattle.renamed_trees.specs.RenamedTrees.{statements_renamed, groups_renamed}
use Rattle.renamed_trees.specs.Renamings.{named}
use Rattle.renamed_trees.specs.TurnedLists.{statements_turned, groups_turned}
use Rattle.renamed_trees.proofs.statements.+rename.Given as goal

abbrev pub invariant-taken_statements-loop-list : goal.invariant-taken_statements-loop-list
invariant-taken_statements-loop-list l = record {
  no_deeper : size-Stmts l.list ≤ size-Stmts l.initial.list;
  same_list : statements_turned (statements_renamed (named l.renaming) (stmts_view l.list)) (stmts_view l.done)
      ≡ statements_turned (statements_renamed (named l.renaming) (stmts_view l.initial.list)) no_statements;
}

abbrev pub decreases-taken_statements-loop-list : goal.decreases-taken_statements-loop-list
decreases-taken_statements-loop-list l = size-Stmts l.list

abbrev pub invariant-taken_groups-loop-list : goal.invariant-taken_groups-loop-list
invariant-taken_groups-loop-list l = record {
  no_deeper : size-Groups l.list ≤ size-Groups l.initial.list;
  same_list : groups_turned (groups_renamed (named l.renaming) (groups_view l.list)) (groups_view l.done)
      ≡ groups_turned (groups_renamed (named l.renaming) (groups_view l.initial.list)) no_groups;
}

abbrev pub decreases-taken_groups-loop-list : goal.decreases-taken_groups-loop-list
decreases-taken_groups-loop-list l = size-Groups l.list
