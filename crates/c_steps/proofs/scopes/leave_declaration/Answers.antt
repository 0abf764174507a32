use Rattle.std.proofs.Common.{sym, ap, ◌∙◌}
use Rattle.rvt_tree.specs.Views.{stmt_view}
use Rattle.c_meaning.specs.Statements.{declared_variable, locals_without}
use Rattle.c_steps.proofs.ScopeEnds.{none_declared}
use Rattle.c_steps.proofs.scopes.leave_declaration.Goals as goal

pub returns-in-Declare : goal.returns-in-Declare
returns-in-Declare c =
    c.leave_scope.ensures ∙ sym (ap (λ s. record c.args.cells.now { locals = locals_without (declared_variable (stmt_view s)) c.args.cells.now.locals }) c.in-Declare.is)

pub returns-in-DeclareWith : goal.returns-in-DeclareWith
returns-in-DeclareWith c =
    c.leave_scope-in-DeclareWith.ensures ∙ sym (ap (λ s. record c.args.cells.now { locals = locals_without (declared_variable (stmt_view s)) c.args.cells.now.locals }) c.in-DeclareWith.is)

pub returns-in_default : goal.returns-in_default
returns-in_default c =
    sym (ap (λ variables. record c.args.cells.now { locals = locals_without variables c.args.cells.now.locals }) (none_declared c.args.s.now c.in_default.not-Declare c.in_default.not-DeclareWith))
