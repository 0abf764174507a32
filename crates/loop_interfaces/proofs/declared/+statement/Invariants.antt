use Rattle.std.proofs.Common.{◌≡◌, ◌≤◌, ◌++◌}
use Rattle.rvt_tree.specs.Views.{stmts_view, groups_view}
use Rattle.rvt_tree.specs.declared.statements.Stmts.{size-Stmts}
use Rattle.rvt_tree.specs.declared.statements.Groups.{size-Groups}
use Rattle.c_meaning.specs.Interfaces.{declared_inside_block, declared_inside_groups}
use Rattle.loop_interfaces.proofs.declared.+statement.Given as goal

-- those so far, and those that are left
abbrev pub invariant-add_inside_block-loop-rest : goal.invariant-add_inside_block-loop-rest
invariant-add_inside_block-loop-rest l = record {
  no_deeper : size-Stmts l.rest ≤ size-Stmts l.initial.rest;
  same : l.out.items ++ declared_inside_block (stmts_view l.rest) ≡ l.initial.out.items ++ declared_inside_block (stmts_view l.initial.rest);
}

abbrev pub invariant-add_inside_groups-loop-rest : goal.invariant-add_inside_groups-loop-rest
invariant-add_inside_groups-loop-rest l = record {
  no_deeper : size-Groups l.rest ≤ size-Groups l.initial.rest;
  same : l.out.items ++ declared_inside_groups (groups_view l.rest) ≡ l.initial.out.items ++ declared_inside_groups (groups_view l.initial.rest);
}
