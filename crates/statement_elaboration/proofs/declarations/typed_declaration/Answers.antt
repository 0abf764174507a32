use Rattle.std.proofs.Common.{Vec, map, sym}
use Rattle.std.specs.Global.{Global}
use Rattle.rvt_tree.specs.declared.statements.Stmt.{Stmt}
use Rattle.c_syntax.specs.Views.{init_view, declaration_view}
use Rattle.expression_typing.specs.TypeNames.{base_type}
use Rattle.file_typing.specs.Blocks.{scope_of}
use Rattle.file_typing.specs.LocalDeclarations.{typed_declarators}
use Rattle.typing_base.specs.Views.{notes_view, qualified_view}
use Rattle.statement_elaboration.specs.Views.{block_view, declared_view}
use Rattle.statement_elaboration.proofs.Declarators.{declaration_at}
use Rattle.statement_elaboration.proofs.Steps.{gives_fail, err_of}
use Rattle.statement_elaboration.proofs.declarations.typed_declaration.Goals as goal

pub returns-in_err-base-clause-typed : goal.returns-in_err-base-clause-typed
returns-in_err-base-clause-typed c =
    rw (err_of c.in_err-base.field-0.0 c.from_residual.result c.from_residual.ensures.1)
    (gives_fail qualified_view (λ (made : Vec Stmt Global). declared_view c.args.environment.now c.args.block made.items) (base_type (scope_of (block_view c.args.environment.now c.args.block)) c.args.declaration.now.base)
    (λ base. typed_declarators (block_view c.args.environment.now c.args.block) base (map init_view c.args.declaration.now.inits))
    c.in_err-base.field-0.0 (notes_view c.args.notes.now) _ c.in_err-base.ensures)

pub returns-clause-typed : goal.returns-clause-typed
returns-clause-typed c =
    rw (
      declaration_at (block_view c.args.environment.now c.args.block) (declaration_view c.args.declaration.now) (qualified_view c.in_ok-base.base) (notes_view c.args.notes.now) c.in_ok-base.ensures,
      sym c.as_slice-inits.ensures,
    ) c.declared_with.ensures.typed
