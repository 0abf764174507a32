use Rattle.std.proofs.Common.{◌≡◌, Err, map, subst}
use Rattle.c_syntax.specs.Views.{declarator_view}
use Rattle.expression_typing.specs.Entities.{QualifiedType, Scope}
use Rattle.expression_typing.specs.Outcomes.{give}
use Rattle.expression_typing.specs.TypeNames.{base_type}
use Rattle.file_typing.specs.FileScope.{scope_of_file}
use Rattle.file_typing.specs.Structs.{typed_fields}
use Rattle.typing_base.specs.Follows.{Gives}
use Rattle.typing_base.specs.Views.{notes_view, qualified_view}
use Rattle.file_state.specs.Views.{file_state_view, members_view}
use Rattle.file_declarations.proofs.Rules.{after_rule, err_of, rule_fails}
use Rattle.file_declarations.proofs.fields.typed_line.Goals as goal

pub returns-in_err-base : goal.returns-in_err-base
returns-in_err-base c =
    rw (err_of c.in_err-base.field-0.0 c.from_residual.result c.from_residual.ensures.1)
    (rule_fails qualified_view (λ (_ : Unit {0}). members_view c.args.members.now) (base_type (scope_of_file (file_state_view c.args.state.now)) c.args.line.now.base)
    (λ (base : QualifiedType). typed_fields (file_state_view c.args.state.now) base (members_view c.args.members.now) (map declarator_view c.args.line.now.declarators))
    c.in_err-base.field-0.0 (notes_view c.args.notes.now) _
    (subst (λ (s : Scope). Gives qualified_view (base_type s c.args.line.now.base) (Err c.in_err-base.field-0.0)) c.scope.ensures c.in_err-base.ensures))

pub returns : goal.returns
returns c =
    after_rule (λ (_ : Unit {0}). members_view c.fields_on_base.new.members) (base_type (scope_of_file (file_state_view c.args.state.now)) c.args.line.now.base)
    (λ (base : QualifiedType). typed_fields (file_state_view c.args.state.now) base (members_view c.args.members.now) (map declarator_view c.args.line.now.declarators))
    (qualified_view c.in_ok-base.base) (notes_view c.args.notes.now) c.fields_on_base.result c.fields_on_base.new.notes
    (subst (λ (s : Scope). base_type s c.args.line.now.base ≡ give (qualified_view c.in_ok-base.base)) c.scope.ensures c.in_ok-base.ensures) c.fields_on_base.ensures
