use Rattle.std.proofs.Common.{refl, sym, ap, ◌∙◌}
use Rattle.rvt_tree.specs.Views.{stmt_view, stmts_view}
use Rattle.c_meaning.specs.Statements.{declared_variable, declared_in}
use Rattle.c_steps.proofs.ScopeEnds.{leaving, leaving_more}
use Rattle.c_steps.proofs.scopes.leave_scope.Goals as goal

pub declarations-init : goal.declarations-init
declarations-init c = refl

pub declarations-preserved : goal.declarations-preserved
declarations-preserved c =
    let cells = c.declarations.cells in
    let own = declared_variable (stmt_view c.in-More.first) in
    ap (leaving (declared_in (stmts_view c.deref-body.result.now))) c.leave_declaration.ensures
    ∙ ap (λ body. leaving (declared_in (stmts_view body)) (leaving own cells)) c.deref-body.ensures
    ∙ sym (leaving_more own (declared_in (stmts_view c.in-More.rest.value)) cells)
    ∙ sym (ap (λ body. leaving (declared_in (stmts_view body)) cells) c.in-More.is)
    ∙ c.declarations.invariant

pub returns : goal.returns
returns c =
    sym (ap (λ body. leaving (declared_in (stmts_view body)) c.declarations.cells) c.in_default.is) ∙ c.declarations.invariant
