use Rattle.std.proofs.Common.{◌≡◌, vec_len}
use Rattle.rvt_tree.specs.Syntax.{no_statements}
use Rattle.rvt_tree.specs.Views.{stmts_view, stmts_before}
use Rattle.rvt_tree.proofs.builders.statements.Given as goal

abbrev pub invariant-loop-last : goal.invariant-loop-last
invariant-loop-last l = stmts_before l.items.items (stmts_view l.list) ≡ stmts_before l.fn.items.items no_statements

abbrev pub decreases-loop-last : goal.decreases-loop-last
decreases-loop-last l = vec_len l.items
