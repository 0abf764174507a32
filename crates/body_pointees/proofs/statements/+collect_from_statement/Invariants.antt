use Rattle.std.proofs.Common.{◌≡◌, ◌++◌, ◌≤◌}
use Rattle.rvt_tree.specs.Views.{stmts_view, groups_view}
use Rattle.rvt_tree.specs.declared.statements.Stmts.{size-Stmts}
use Rattle.rvt_tree.specs.declared.statements.Groups.{size-Groups}
use Rattle.body_pointees.specs.Pointees.{statements_pointees, groups_pointees}
use Rattle.body_pointees.proofs.statements.+collect_from_statement.Given as goal

abbrev pub invariant-collect_from_statements-loop-rest : goal.invariant-collect_from_statements-loop-rest
invariant-collect_from_statements-loop-rest l = record {
  no_deeper : size-Stmts l.rest ≤ size-Stmts l.initial.rest;
  collected : l.into.items ++ statements_pointees (stmts_view l.rest) ≡ l.initial.into.items ++ statements_pointees (stmts_view l.initial.rest);
}

abbrev pub decreases-collect_from_statements-loop-rest : goal.decreases-collect_from_statements-loop-rest
decreases-collect_from_statements-loop-rest l = size-Stmts l.rest

abbrev pub invariant-collect_from_groups-loop-rest : goal.invariant-collect_from_groups-loop-rest
invariant-collect_from_groups-loop-rest l = record {
  no_deeper : size-Groups l.rest ≤ size-Groups l.initial.rest;
  collected : l.into.items ++ groups_pointees (groups_view l.rest) ≡ l.initial.into.items ++ groups_pointees (groups_view l.initial.rest);
}

abbrev pub decreases-collect_from_groups-loop-rest : goal.decreases-collect_from_groups-loop-rest
decreases-collect_from_groups-loop-rest l = size-Groups l.rest
