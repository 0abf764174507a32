use Rattle.std.proofs.Common.{◌≡◌, ◌++◌}
use Rattle.rvt_tree.specs.Views.{stmts_view}
use Rattle.rvt_tree.specs.declared.statements.Stmts.{size-Stmts}
use Rattle.c_code.specs.Statements.{leaving}
use Rattle.c_code.proofs.statements.leave.Given as goal

abbrev pub invariant-declarations : goal.invariant-declarations
invariant-declarations l = l.code.items ++ leaving (stmts_view l.left) ≡ l.initial.code.items ++ leaving (stmts_view l.initial.left)

abbrev pub decreases-declarations : goal.decreases-declarations
decreases-declarations l = size-Stmts l.left
