use Rattle.std.proofs.Common.{Err, true, subst}
use Rattle.c_syntax.specs.Views.{param_view}
use Rattle.expression_typing.specs.Entities.{QualifiedType, Scope}
use Rattle.expression_typing.specs.Outcomes.{go_on}
use Rattle.expression_typing.specs.TypeNames.{base_type}
use Rattle.typing_base.specs.Follows.{Becomes}
use Rattle.typing_base.specs.Views.{environment_view, notes_view, qualified_view}
use Rattle.declarator_types.specs.Views.{value_type_view}
use Rattle.file_declarations.specs.Steps.{type_on_base}
use Rattle.file_declarations.proofs.Extensions.{scope_is}
use Rattle.file_declarations.proofs.Rules.{after_rule, err_of, rule_fails}
use Rattle.file_declarations.proofs.parameters.type_of_parameter.Goals as goal

pub returns-in_err-base : goal.returns-in_err-base
returns-in_err-base c =
    rw (err_of c.in_err-base.field-0.0 c.from_residual.result c.from_residual.ensures.1)
    (subst (λ (s : Scope). Becomes value_type_view (go_on (λ (base : QualifiedType). type_on_base c.args.with_names s base (param_view c.args.p.now)) (base_type s c.args.p.now.base (notes_view c.args.notes.now))) (Err c.in_err-base.field-0.0) c.args.notes.now)
    (scope_is c.args.environment.now c.args.height c.args.found)
    (rule_fails qualified_view value_type_view (base_type (environment_view c.args.environment.now true) c.args.p.now.base)
    (λ (base : QualifiedType). type_on_base c.args.with_names (environment_view c.args.environment.now true) base (param_view c.args.p.now))
    c.in_err-base.field-0.0 (notes_view c.args.notes.now) c.args.notes.now c.in_err-base.ensures))

pub returns : goal.returns
returns c =
    subst (λ (s : Scope). Becomes value_type_view (go_on (λ (base : QualifiedType). type_on_base c.args.with_names s base (param_view c.args.p.now)) (base_type s c.args.p.now.base (notes_view c.args.notes.now))) c.type_on_base.result c.type_on_base.new.notes)
    (scope_is c.args.environment.now c.args.height c.args.found)
    (after_rule value_type_view (base_type (environment_view c.args.environment.now true) c.args.p.now.base)
    (λ (base : QualifiedType). type_on_base c.args.with_names (environment_view c.args.environment.now true) base (param_view c.args.p.now))
    (qualified_view c.in_ok-base.base) (notes_view c.args.notes.now) c.type_on_base.result c.type_on_base.new.notes c.in_ok-base.ensures c.type_on_base.ensures)
