use Rattle.std.proofs.Common.{◌≡◌, ◌≤◌, ◌++◌}
use Rattle.std.specs.Prelude.{map}
use Rattle.rvt_tree.specs.Views.{stmt_view, stmts_view, groups_view}
use Rattle.rvt_tree.specs.declared.statements.Stmts.{size-Stmts}
use Rattle.rvt_tree.specs.declared.statements.Groups.{size-Groups}
use Rattle.loop_interfaces.specs.Loops.{loops_in_block, loops_in_groups}
use Rattle.loop_interfaces.proofs.loops.+statement.Given as goal

-- those so far, and those that are left
abbrev pub invariant-add_loops_in_block-loop-rest : goal.invariant-add_loops_in_block-loop-rest
invariant-add_loops_in_block-loop-rest l = record {
  no_deeper : size-Stmts l.rest ≤ size-Stmts l.initial.rest;
  same : map (λ s. stmt_view s.now) l.out.items ++ loops_in_block (stmts_view l.rest) ≡ map (λ s. stmt_view s.now) l.initial.out.items ++ loops_in_block (stmts_view l.initial.rest);
}

abbrev pub invariant-add_loops_in_groups-loop-rest : goal.invariant-add_loops_in_groups-loop-rest
invariant-add_loops_in_groups-loop-rest l = record {
  no_deeper : size-Groups l.rest ≤ size-Groups l.initial.rest;
  same : map (λ s. stmt_view s.now) l.out.items ++ loops_in_groups (groups_view l.rest) ≡ map (λ s. stmt_view s.now) l.initial.out.items ++ loops_in_groups (groups_view l.initial.rest);
}
