use Rattle.std.proofs.Common.{◌≡◌, ◌++◌, ◌≤◌, ◌+◌, ◌*◌}
use Rattle.rvt_tree.specs.Views.{stmts_view, groups_view}
use Rattle.rvt_tree.specs.declared.statements.Stmt.{size-Stmt}
use Rattle.rvt_tree.specs.declared.statements.Stmts.{size-Stmts}
use Rattle.rvt_tree.specs.declared.statements.Groups.{size-Groups}
use Rattle.c_code.specs.Statements.{rest_code, groups_code}
use Rattle.c_code.proofs.statements.+statement.Given as goal

-- what was emitted, with what is left
abbrev pub invariant-rest-rest : goal.invariant-rest-rest
invariant-rest-rest l = record {
  no_deeper : size-Stmts l.left ≤ size-Stmts l.initial.left;
  emitted : l.code.items ++ rest_code l.counts (stmts_view l.left) ≡ l.initial.code.items ++ rest_code l.counts (stmts_view l.initial.left);
}

abbrev pub decreases-rest-rest : goal.decreases-rest-rest
decreases-rest-rest l = size-Stmts l.left

abbrev pub invariant-groups-groups : goal.invariant-groups-groups
invariant-groups-groups l = record {
  no_deeper : size-Groups l.left ≤ size-Groups l.initial.left;
  emitted : l.code.items ++ groups_code l.counts (groups_view l.left) ≡ l.initial.code.items ++ groups_code l.counts (groups_view l.initial.left);
}

abbrev pub decreases-groups-groups : goal.decreases-groups-groups
decreases-groups-groups l = size-Groups l.left

-- how deep the tree is that each walks; among those that walk the same tree, the caller first

abbrev pub decreases-statement : goal.decreases-statement
decreases-statement l = 3 * size-Stmt l.s.now

abbrev pub decreases-guarded : goal.decreases-guarded
decreases-guarded l = 3 * size-Stmt l.first.now + 1

abbrev pub decreases-rounds : goal.decreases-rounds
decreases-rounds l = 3 * size-Stmt l.body.now + 1

abbrev pub decreases-rounds_with : goal.decreases-rounds_with
decreases-rounds_with l = 3 * size-Stmt l.body.now + 1

abbrev pub decreases-scope : goal.decreases-scope
decreases-scope l = 3 * size-Stmts l.body.now + 1

abbrev pub decreases-block : goal.decreases-block
decreases-block l = 3 * size-Stmts l.body.now

abbrev pub decreases-rest : goal.decreases-rest
decreases-rest l = 3 * size-Stmts l.body.now

abbrev pub decreases-skippable : goal.decreases-skippable
decreases-skippable l = 3 * size-Stmt l.s.now + 1

abbrev pub decreases-groups : goal.decreases-groups
decreases-groups l = 3 * size-Groups l.list.now

abbrev pub decreases-group : goal.decreases-group
decreases-group l = 3 * size-Stmts l.body.now + 2
