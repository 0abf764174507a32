use Rattle.std.proofs.Common.{◌≡◌, map, vec_len}
use Rattle.rvt_tree.specs.Views.{act_view, stmts_view}
use Rattle.file_typing.specs.Statements.{as_statements, statements_of, statements_before}
use Rattle.statement_elaboration.proofs.acts.as_statements.Given as goal

abbrev pub invariant-actions : goal.invariant-actions
invariant-actions l = record {
  same : statements_of (as_statements (map act_view l.fn.acts.items)) ≡ statements_before (as_statements (map act_view l.acts.items)) (stmts_view l.list);
}

abbrev pub decreases-actions : goal.decreases-actions
decreases-actions l = vec_len l.acts
