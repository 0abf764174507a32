use Rattle.std.proofs.Common.{◌≡◌}
use Rattle.rvt_tree.specs.Syntax.{no_statements}
use Rattle.rvt_tree.specs.Views.{stmts_view}
use Rattle.rvt_tree.specs.declared.statements.Stmts.{size-Stmts}
use Rattle.renamed_trees.specs.TurnedLists.{statements_turned}
use Rattle.renamed_trees.proofs.turned.turned_statements.Given as goal

abbrev pub invariant-loop-list : goal.invariant-loop-list
invariant-loop-list l = statements_turned (stmts_view l.list) (stmts_view l.done) ≡ statements_turned (stmts_view l.fn.list) no_statements

abbrev pub decreases-loop-list : goal.decreases-loop-list
decreases-loop-list l = size-Stmts l.list
