use Rattle.std.proofs.Common.{◌≤◌, ◌∙◌, map, Some, Option, Vec, Global, ℤ, arith, ap, sym, refl}
use Rattle.std.proofs.lemmas.List.Elements.{All-pop}
use Rattle.c_types.specs.Layout.{shape_of}
use Rattle.c_syntax.specs.Syntax.{type_name}
use Rattle.c_syntax.specs.Views.{expr_view, exprs_view, suffixes_view, casts_view, dim_view, dims_view}
use Rattle.c_syntax.specs.declared.expressions.Exprs.{size-Exprs}
use Rattle.c_syntax.specs.declared.expressions.Suffixes.{size-Suffixes}
use Rattle.c_syntax.specs.declared.expressions.Casts.{size-Casts}
use Rattle.c_syntax.specs.declared.expressions.Dims.{size-Dims}
use Rattle.expression_typing.specs.ArraySubscripting.{element_of}
use Rattle.expression_typing.specs.ConditionalOperator.{choice_of}
use Rattle.expression_typing.specs.FirstTokens.{ends_of}
use Rattle.expression_typing.specs.Operators.{operated}
use Rattle.expression_typing.specs.SizeofOperator.{size_of_operand, size_of_type}
use Rattle.typing_base.specs.Views.{operand_view, scope_view, notes_view, structures_view, qualified_view}
use Rattle.place_rules.specs.Views.{ends_view}
use Rattle.operator_rules.specs.Views.{written_view}
use Rattle.expression_elaboration.specs.Chains.{cast_back}
use Rattle.expression_elaboration.specs.declared.chains.CastTo.{CastTo}
use Rattle.expression_elaboration.specs.Views.{cast_view}
use Rattle.expression_elaboration.proofs.Arms.{typed_binary, typed_conditional, typed_postfix, typed_cast}
use Rattle.expression_elaboration.proofs.ArmFaults.{postfix_fails, types_fail, cast_operand_fails}
use Rattle.expression_elaboration.proofs.ChainFaults.{chain_fails_of}
use Rattle.expression_elaboration.proofs.Depths.{exprs_no_deeper, casts_no_deeper, dims_no_deeper}
use Rattle.expression_elaboration.proofs.Lists.{passed_step, number_step, lengths_step}
use Rattle.expression_elaboration.proofs.Results.{gives_at, becomes_same, residual}
use Rattle.expression_elaboration.proofs.SizeArms.{size_of_typed, size_of_written}
use Rattle.expression_elaboration.proofs.Suffixed.{chain_step_of, index_after}
use Rattle.expression_elaboration.proofs.TypeSteps.{types_step_of, base_fails, dims_fail, type_written, length_fails}
use Rattle.expression_elaboration.proofs.expressions.+typed.Goals as goal

-- ---- arguments

pub passed-arguments-preserved : goal.passed-arguments-preserved
passed-arguments-preserved t c = record {
  no_deeper = omega (arith, ap size-Exprs c.deref-rest.ensures, exprs_no_deeper _ _ _ c.in-More.is, c.arguments.invariant.no_deeper);
  number = rw (c.in_ok-put.ensures, c.deref-rest.ensures)
      (number_step c.arguments.made.items c.in_ok-value.value (exprs_view c.arguments.rest.now) (exprs_view c.in-More.others.value) (expr_view c.in-More.e) _ c.arguments.invariant.number (ap exprs_view c.in-More.is));
  same_outcome = rw (c.in_ok-put.ensures, c.deref-rest.ensures, c.later-params.ensures)
      (passed_step (scope_view c.args.scope) (map shape_of c.arguments.params.now) (exprs_view c.arguments.rest.now) (exprs_view c.in-More.others.value) (expr_view c.in-More.e)
      c.arguments.made.items c.in_ok-value.value (notes_view c.arguments.notes) (notes_view c.argument.new.notes) _ c.arguments.invariant.same_outcome (ap exprs_view c.in-More.is) c.in_ok-value.ensures);
}

-- ---- suffixes

pub followed-followed_by-requires : goal.followed-followed_by-requires
followed-followed_by-requires t c =
    let within : size-Suffixes c.in-Some.suffix.now ≤ size-Suffixes c.args.suffixes.now =
    (All-pop (λ s. size-Suffixes s.now ≤ size-Suffixes c.args.suffixes.now) c.suffixes.chain.items c.pop.new.self.items (Some c.in-Some.suffix) c.in-Some.ensures.items c.suffixes.invariant.no_deeper).1 in
    (omega (arith, within, c.decreases), tt)

pub followed-suffixes-preserved : goal.followed-suffixes-preserved
followed-suffixes-preserved t c = record {
  no_deeper = (All-pop (λ s. size-Suffixes s.now ≤ size-Suffixes c.args.suffixes.now) c.suffixes.chain.items c.pop.new.self.items (Some c.in-Some.suffix) c.in-Some.ensures.items c.suffixes.invariant.no_deeper).0;
  same_outcome = chain_step_of (scope_view c.args.scope) (ends_view c.args.ends) (λ s. suffixes_view s.now) c.suffixes.chain.items c.pop.new.self.items c.in-Some.suffix _
      (operand_view c.suffixes.x) (operand_view c.in-Ok.made) (notes_view c.suffixes.notes) (notes_view c.followed_by.new.notes)
      c.suffixes.invariant.same_outcome c.in-Some.ensures.items c.in-Ok.ensures;
}

pub followed-returns-in-Err : goal.followed-returns-in-Err
followed-returns-in-Err t c = chain_fails_of (scope_view c.args.scope) (ends_view c.args.ends) (λ s. suffixes_view s.now) c.suffixes.chain.items c.pop.new.self.items c.in-Some.suffix _
    (operand_view c.suffixes.x) (notes_view c.suffixes.notes) c.in-Err.fault c.followed_by.new.notes c.followed_by.new.notes
    c.suffixes.invariant.same_outcome c.in-Some.ensures.items c.in-Err.ensures

pub followed_by-returns-in_ok-y-in-Index : goal.followed_by-returns-in_ok-y-in-Index
followed_by-returns-in_ok-y-in-Index t c =
    gives_at operand_view _ (element_of (structures_view c.structs.result.now) c.in-Index.at (operand_view c.args.x) (operand_view c.in_ok-y-in-Index.y)) c.element_of.result c.operand.new.notes
    (index_after (scope_view c.args.scope) (ends_view c.args.ends) (suffixes_view c.args.suffix.now) _ c.in-Index.at (expr_view c.in-Index.i) (operand_view c.args.x) (operand_view c.in_ok-y-in-Index.y)
    (notes_view c.args.notes.now) (notes_view c.operand.new.notes) (ap suffixes_view c.in-Index.is) c.in_ok-y-in-Index.ensures
    ∙ ap (λ s. element_of s c.in-Index.at (operand_view c.args.x) (operand_view c.in_ok-y-in-Index.y) (notes_view c.operand.new.notes)) (sym c.structs.ensures))
    c.element_of.ensures

pub typed-returns-in_ok-x-in-Postfix : goal.typed-returns-in_ok-x-in-Postfix
typed-returns-in_ok-x-in-Postfix t c = becomes_same operand_view _ _ c.followed.result c.followed.new.notes
    (typed_postfix (scope_view c.args.scope) (expr_view c.args.e.now) _ (expr_view c.deref-in-Postfix.result.now) _ (suffixes_view c.deref-in-Postfix-3.result.now) (ends_view c.ends_of.result)
    (notes_view c.args.notes.now) (notes_view c.typed-in-Postfix.new.notes) (operand_view c.in_ok-x-in-Postfix.x)
    (ap expr_view c.in-Postfix.is) (ap expr_view c.deref-in-Postfix.ensures) (ap suffixes_view c.deref-in-Postfix-3.ensures)
    (c.ends_of.ensures ∙ ap (λ v. ends_of (expr_view v)) (c.deref-in-Postfix-2.ensures ∙ sym c.deref-in-Postfix.ensures)) c.in_ok-x-in-Postfix.ensures)
    c.followed.ensures

pub typed-returns-in_err-x-in-Postfix : goal.typed-returns-in_err-x-in-Postfix
typed-returns-in_err-x-in-Postfix t c = residual operand_view _ c.from_residual.result c.in_err-x-in-Postfix.field-0.0 c.typed-in-Postfix.new.notes c.from_residual.ensures.1
    (postfix_fails (scope_view c.args.scope) (expr_view c.args.e.now) _ (expr_view c.deref-in-Postfix.result.now) _ (notes_view c.args.notes.now) c.in_err-x-in-Postfix.field-0.0
    c.typed-in-Postfix.new.notes c.typed-in-Postfix.new.notes (ap expr_view c.in-Postfix.is) (ap expr_view c.deref-in-Postfix.ensures) c.in_err-x-in-Postfix.ensures)

-- ---- casts and types

pub types_in_turn-casts-preserved : goal.types_in_turn-casts-preserved
types_in_turn-casts-preserved t c = record {
  no_deeper = omega (arith, ap size-Casts c.deref-rest.ensures, casts_no_deeper _ _ _ _ _ _ c.in-More.is, c.casts.invariant.no_deeper);
  same_outcome = rw c.deref-rest.ensures
      (types_step_of (scope_view c.args.scope) _ (casts_view c.casts.rest.now) (casts_view c.in-More.others.value) (type_name c.in-More.base c.in-More.pointer (dims_view c.in-More.dims))
      c.put_cast.new.casts.items c.casts.made.items (record { place = c.in-More.at; ty = c.in_ok-ty.ty }) (notes_view c.casts.notes) (notes_view c.written_type.new.notes)
      c.casts.invariant.same_outcome (ap casts_view c.in-More.is) c.in_ok-ty.ensures c.in_ok-put_cast.ensures);
}

pub typed-returns-in_ok-x-in-Cast : goal.typed-returns-in_ok-x-in-Cast
typed-returns-in_ok-x-in-Cast t c =
    gives_at operand_view _ (cast_back (map cast_view c.in_ok-types-in-Cast.types.items) (operand_view c.in_ok-x-in-Cast.x)) c.cast_back.result c.operand.new.notes
    (typed_cast (scope_view c.args.scope) (expr_view c.args.e.now) _ (expr_view c.deref-in-Cast-2.result.now) _ (casts_view c.deref-in-Cast.result.now)
    (notes_view c.args.notes.now) (notes_view c.types_in_turn.new.notes) (notes_view c.operand.new.notes) (map cast_view c.in_ok-types-in-Cast.types.items) (operand_view c.in_ok-x-in-Cast.x)
    (ap expr_view c.in-Cast.is) (ap expr_view c.deref-in-Cast-2.ensures) (ap casts_view c.deref-in-Cast.ensures) c.in_ok-types-in-Cast.ensures c.in_ok-x-in-Cast.ensures)
    c.cast_back.ensures

pub typed-returns-in_err-types-in-Cast : goal.typed-returns-in_err-types-in-Cast
typed-returns-in_err-types-in-Cast t c =
    residual operand_view _ c.from_residual-in_err-types-in-Cast.result c.in_err-types-in-Cast.field-0.0 c.types_in_turn.new.notes c.from_residual-in_err-types-in-Cast.ensures.1
    (types_fail (scope_view c.args.scope) (λ (types : Vec CastTo Global). map cast_view types.items) (expr_view c.args.e.now) _ _ _ (casts_view c.deref-in-Cast.result.now) (notes_view c.args.notes.now)
    c.in_err-types-in-Cast.field-0.0 c.types_in_turn.new.notes c.types_in_turn.new.notes (ap expr_view c.in-Cast.is) refl (ap casts_view c.deref-in-Cast.ensures) c.in_err-types-in-Cast.ensures)

pub typed-returns-in_err-x-in-Cast : goal.typed-returns-in_err-x-in-Cast
typed-returns-in_err-x-in-Cast t c =
    residual operand_view _ c.from_residual-in_err-x-in-Cast.result c.in_err-x-in-Cast.field-0.0 c.operand.new.notes c.from_residual-in_err-x-in-Cast.ensures.1
    (cast_operand_fails (scope_view c.args.scope) (expr_view c.args.e.now) _ (expr_view c.deref-in-Cast-2.result.now) _ (casts_view c.deref-in-Cast.result.now)
    (notes_view c.args.notes.now) (notes_view c.types_in_turn.new.notes) (map cast_view c.in_ok-types-in-Cast.types.items) c.in_err-x-in-Cast.field-0.0 c.operand.new.notes c.operand.new.notes
    (ap expr_view c.in-Cast.is) (ap expr_view c.deref-in-Cast-2.ensures) (ap casts_view c.deref-in-Cast.ensures) c.in_ok-types-in-Cast.ensures c.in_err-x-in-Cast.ensures)

pub written_type-returns-in_err-ty : goal.written_type-returns-in_err-ty
written_type-returns-in_err-ty t c = residual written_view _ c.from_residual.result c.in_err-ty.field-0.0 c.args.notes.now c.from_residual.ensures.1
    (base_fails qualified_view written_view (scope_view c.args.scope) c.args.base.now c.args.pointer (dims_view c.args.dims.now) (notes_view c.args.notes.now) c.in_err-ty.field-0.0 c.args.notes.now c.in_err-ty.ensures)

pub written_type-returns-in_err-lengths : goal.written_type-returns-in_err-lengths
written_type-returns-in_err-lengths t c = residual written_view _ c.from_residual-in_err-lengths.result c.in_err-lengths.field-0.0 c.lengths.new.notes c.from_residual-in_err-lengths.ensures.1
    (dims_fail (λ (lengths : Vec (Option ℤ) Global). lengths.items) written_view (scope_view c.args.scope) c.args.base.now c.args.pointer (dims_view c.args.dims.now) (qualified_view c.in_ok-ty.ty) (notes_view c.args.notes.now)
    c.in_err-lengths.field-0.0 c.lengths.new.notes c.lengths.new.notes c.in_ok-ty.ensures c.in_err-lengths.ensures)

pub written_type-returns : goal.written_type-returns
written_type-returns t c = type_written (scope_view c.args.scope) c.args.base.now c.args.pointer (dims_view c.args.dims.now) (qualified_view c.in_ok-ty.ty) (qualified_view c.pointed.result)
    c.in_ok-lengths.lengths.items (notes_view c.args.notes.now) (notes_view c.lengths.new.notes) c.in_ok-ty.ensures c.in_ok-lengths.ensures c.pointed.ensures

-- ---- dimensions

pub lengths-dimensions-preserved : goal.lengths-dimensions-preserved
lengths-dimensions-preserved t c = record {
  no_deeper = omega (arith, ap size-Dims c.deref-rest.ensures, dims_no_deeper _ _ _ c.in-More.is, c.dimensions.invariant.no_deeper);
  same_outcome = rw (c.in_ok-put_length.ensures, c.deref-rest.ensures)
      (lengths_step (scope_view c.args.scope) (dims_view c.dimensions.rest.now) (dims_view c.in-More.others.value) (dim_view c.in-More.dim) c.dimensions.made.items c.in_ok-length.length
      (notes_view c.dimensions.notes) (notes_view c.length_of.new.notes) _ c.dimensions.invariant.same_outcome (ap dims_view c.in-More.is) c.in_ok-length.ensures);
}

pub lengths-returns-in_err-length : goal.lengths-returns-in_err-length
lengths-returns-in_err-length t c = residual (λ (lengths : Vec (Option ℤ) Global). lengths.items) _ c.from_residual.result c.in_err-length.field-0.0 c.length_of.new.notes c.from_residual.ensures.1
    (length_fails (λ (length : Option ℤ). length) (λ (lengths : Vec (Option ℤ) Global). lengths.items) (scope_view c.args.scope) _ (dims_view c.dimensions.rest.now) (dims_view c.in-More.others.value) (dim_view c.in-More.dim) c.dimensions.made.items
    (notes_view c.dimensions.notes) c.in_err-length.field-0.0 c.length_of.new.notes c.length_of.new.notes c.dimensions.invariant.same_outcome (ap dims_view c.in-More.is) c.in_err-length.ensures)

-- ---- operators

pub typed-returns-in_ok-y-in-Binary : goal.typed-returns-in_ok-y-in-Binary
typed-returns-in_ok-y-in-Binary t c =
    gives_at operand_view _ (operated (structures_view c.structs-in-Binary.result.now) c.in-Binary.op c.in-Binary.at (operand_view c.in_ok-x-in-Binary.x) (operand_view c.in_ok-y-in-Binary.y))
    c.operated.result c.operand-in-Binary-2.new.notes
    (typed_binary (scope_view c.args.scope) (expr_view c.args.e.now) _ _ (expr_view c.deref-in-Binary.result.now) (expr_view c.deref-in-Binary-2.result.now) c.in-Binary.op c.in-Binary.at
    (notes_view c.args.notes.now) (notes_view c.operand-in-Binary.new.notes) (notes_view c.operand-in-Binary-2.new.notes) (operand_view c.in_ok-x-in-Binary.x) (operand_view c.in_ok-y-in-Binary.y)
    (ap expr_view c.in-Binary.is) (ap expr_view c.deref-in-Binary.ensures) (ap expr_view c.deref-in-Binary-2.ensures) c.in_ok-x-in-Binary.ensures c.in_ok-y-in-Binary.ensures
    ∙ ap (λ s. operated s c.in-Binary.op c.in-Binary.at (operand_view c.in_ok-x-in-Binary.x) (operand_view c.in_ok-y-in-Binary.y) (notes_view c.operand-in-Binary-2.new.notes)) (sym c.structs-in-Binary.ensures))
    c.operated.ensures

pub typed-returns-in_ok-y-in-Conditional : goal.typed-returns-in_ok-y-in-Conditional
typed-returns-in_ok-y-in-Conditional t c =
    gives_at operand_view _ (choice_of c.in-Conditional.at (operand_view c.in_ok-condition-in-Conditional.condition) (operand_view c.in_ok-x-in-Conditional.x) (operand_view c.in_ok-y-in-Conditional.y))
    c.choice_of.result c.operand-in-Conditional-3.new.notes
    (typed_conditional (scope_view c.args.scope) (expr_view c.args.e.now) _ _ _ (expr_view c.deref-in-Conditional.result.now) (expr_view c.deref-in-Conditional-2.result.now) (expr_view c.deref-in-Conditional-3.result.now)
    c.in-Conditional.at (notes_view c.args.notes.now) (notes_view c.operand-in-Conditional.new.notes) (notes_view c.operand-in-Conditional-2.new.notes) (notes_view c.operand-in-Conditional-3.new.notes)
    (operand_view c.in_ok-condition-in-Conditional.condition) (operand_view c.in_ok-x-in-Conditional.x) (operand_view c.in_ok-y-in-Conditional.y)
    (ap expr_view c.in-Conditional.is) (ap expr_view c.deref-in-Conditional.ensures) (ap expr_view c.deref-in-Conditional-2.ensures) (ap expr_view c.deref-in-Conditional-3.ensures)
    c.in_ok-condition-in-Conditional.ensures c.in_ok-x-in-Conditional.ensures c.in_ok-y-in-Conditional.ensures)
    c.choice_of.ensures

pub typed-returns-in_ok-x-in-SizeofExpr : goal.typed-returns-in_ok-x-in-SizeofExpr
typed-returns-in_ok-x-in-SizeofExpr t c =
    gives_at operand_view _ (size_of_operand (structures_view c.structs.result.now) c.in-SizeofExpr.at (operand_view c.in_ok-x-in-SizeofExpr.x)) c.size_of_operand.result c.typed-in-SizeofExpr.new.notes
    (size_of_typed (scope_view c.args.scope) (scope_view c.unevaluated.result) (expr_view c.args.e.now) _ (expr_view c.deref-in-SizeofExpr.result.now) c.in-SizeofExpr.at
    (notes_view c.args.notes.now) (notes_view c.typed-in-SizeofExpr.new.notes) (operand_view c.in_ok-x-in-SizeofExpr.x) (structures_view c.structs.result.now)
    (ap expr_view c.in-SizeofExpr.is) (ap expr_view c.deref-in-SizeofExpr.ensures) c.unevaluated.ensures c.structs.ensures c.in_ok-x-in-SizeofExpr.ensures)
    c.size_of_operand.ensures

pub typed-returns-in_ok-written-in-SizeofType : goal.typed-returns-in_ok-written-in-SizeofType
typed-returns-in_ok-written-in-SizeofType t c =
    gives_at operand_view _ (size_of_type (structures_view c.structs-in-SizeofType.result.now) c.in-SizeofType.at (written_view c.in_ok-written-in-SizeofType.written)) c.size_of_type.result c.written_type.new.notes
    (size_of_written (scope_view c.args.scope) (scope_view c.unevaluated-unevaluated.result) (expr_view c.args.e.now) _
    (type_name c.in-SizeofType.base c.in-SizeofType.pointer (dims_view c.deref-in-SizeofType.result.now)) c.in-SizeofType.at
    (notes_view c.args.notes.now) (notes_view c.written_type.new.notes) (written_view c.in_ok-written-in-SizeofType.written) (structures_view c.structs-in-SizeofType.result.now)
    (ap expr_view c.in-SizeofType.is) (ap (λ d. type_name c.in-SizeofType.base c.in-SizeofType.pointer (dims_view d)) c.deref-in-SizeofType.ensures)
    c.unevaluated-unevaluated.ensures c.structs-in-SizeofType.ensures c.in_ok-written-in-SizeofType.ensures)
    c.size_of_type.ensures
