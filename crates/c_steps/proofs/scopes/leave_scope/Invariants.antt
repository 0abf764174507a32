use Rattle.std.proofs.Common.{◌≡◌}
use Rattle.rvt_tree.specs.Views.{stmts_view}
use Rattle.c_meaning.specs.Statements.{declared_in, locals_without}
use Rattle.c_steps.proofs.scopes.leave_scope.Given as goal

abbrev pub invariant-declarations : goal.invariant-declarations
invariant-declarations l =
    record l.cells { locals = locals_without (declared_in (stmts_view l.body)) l.cells.locals } ≡ record l.initial.cells { locals = locals_without (declared_in (stmts_view l.initial.body)) l.initial.cells.locals }
