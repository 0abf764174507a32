use Rattle.std.proofs.Common.{◌≤◌, ◌↔◌}
use Rattle.rvt_tree.specs.Views.{stmts_view, groups_view}
use Rattle.rvt_tree.specs.declared.statements.Stmts.{size-Stmts}
use Rattle.rvt_tree.specs.declared.statements.Groups.{size-Groups}
use Rattle.rvt_tree.specs.Same.{SameStatements, SameGroups}
use Rattle.rvt_same.proofs.same.+same_statement.Given as goal

abbrev pub invariant-same_stmts-loop-left : goal.invariant-same_stmts-loop-left
invariant-same_stmts-loop-left l = record {
  no_deeper : size-Stmts l.left ≤ size-Stmts l.initial.left;
  same_answer : SameStatements l.fn.pairing (stmts_view l.left) (stmts_view l.right) ↔ SameStatements l.fn.pairing (stmts_view l.initial.left) (stmts_view l.initial.right);
}

abbrev pub invariant-same_groups-loop-left : goal.invariant-same_groups-loop-left
invariant-same_groups-loop-left l = record {
  no_deeper : size-Groups l.left ≤ size-Groups l.initial.left;
  same_answer : SameGroups l.fn.pairing (groups_view l.left) (groups_view l.right) ↔ SameGroups l.fn.pairing (groups_view l.initial.left) (groups_view l.initial.right);
}
