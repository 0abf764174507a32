-- The same for the actions on expressions and types together.
use Rattle.std.proofs.Common.{◌≡◌, ℕ, suc, List, [], ◌∷◌, refl, ap, Option, Some}
use Rattle.std.specs.Prelude.{length, option_map}
use Rattle.c_syntax.specs.Syntax.{Expression, TypeName, sized, unsized}
use Rattle.expression_actions.specs.declared.kept_tokens.Kept.{Kept}
use Rattle.expression_actions.specs.Rules as rule
use Rattle.expression_actions.specs.Stacks.{OperandValues, TypeValues, Values}
use Rattle.expression_actions.proofs.Lengths.{too_short_1_0, too_short_2_0, too_short_2_1, drop_1_0, drop_1_1, drop_2_0}
use Rattle.expression_actions.proofs.OperandLeaves as operand
use Rattle.expression_actions.proofs.TypeLeaves as types

-- a rule that makes stacks of these lengths
pub record Leaves (result : Option Values) (kept expressions arguments bases pointers dims names : ℕ) : Type 0 where
  pub made : Values
  pub is_made : result ≡ Some made
  pub kept_left : length made.operands.kept ≡ kept
  pub expressions_left : length made.operands.expressions ≡ expressions
  pub arguments_left : length made.operands.arguments ≡ arguments
  pub bases_left : length made.types.bases ≡ bases
  pub pointers_left : length made.types.pointers ≡ pointers
  pub dims_left : length made.types.dims ≡ dims
  pub names_left : length made.types.names ≡ names

leaving : {result : Option Values} {made : Values} {k e a b p d n : ℕ} → result ≡ Some made → length made.operands.kept ≡ k → length made.operands.expressions ≡ e → length made.operands.arguments ≡ a → length made.types.bases ≡ b → length made.types.pointers ≡ p → length made.types.dims ≡ d → length made.types.names ≡ n → Leaves result k e a b p d n
leaving {made = made} is_made k e a b p d n = record { made = made; is_made = is_made; kept_left = k; expressions_left = e; arguments_left = a; bases_left = b; pointers_left = p; dims_left = d; names_left = n }

-- an action on expressions alone, or on types alone
pub on_operands_leaves : (action : OperandValues → Option OperandValues) (v : Values) {k e a : ℕ} → operand.Leaves (action v.operands) k e a → Leaves (rule.on_operands action v) k e a (length v.types.bases) (length v.types.pointers) (length v.types.dims) (length v.types.names)
on_operands_leaves action v l = leaving (ap (option_map (λ (operands : OperandValues). record v { operands = operands })) l.is_made) l.kept_left l.expressions_left l.arguments_left refl refl refl refl

pub on_types_leaves : (action : TypeValues → Option TypeValues) (v : Values) {b p d n : ℕ} → types.Leaves (action v.types) b p d n → Leaves (rule.on_types action v) (length v.operands.kept) (length v.operands.expressions) (length v.operands.arguments) b p d n
on_types_leaves action v l = leaving (ap (option_map (λ (types : TypeValues). record v { types = types })) l.is_made) refl refl refl l.bases_left l.pointers_left l.dims_left l.names_left

-- ---- `[n]` and `[]`

dim_by_leaves : (kept : List Kept) (es : List Expression) (v : Values) (k e d : ℕ) → length kept ≡ suc k → length es ≡ suc e → length v.types.dims ≡ suc d → Leaves (rule.dim_by kept es v) k e (length v.operands.arguments) (length v.types.bases) (length v.types.pointers) (suc d) (length v.types.names)
dim_by_leaves [] es v k e d h h' h'' = absurd (too_short_1_0 h)
dim_by_leaves (t ∷ kept) [] v k e d h h' h'' = absurd (too_short_1_0 h')
dim_by_leaves (t ∷ kept) (x ∷ es) v k e d h h' h'' =
    let l = types.add_dim_leaves (sized t.word.place x) v.types d h'' in
    leaving (ap (option_map (λ (types : TypeValues). record { operands = record v.operands { kept = kept; expressions = es }; types = types })) l.is_made) (drop_1_0 h) (drop_1_0 h') refl l.bases_left l.pointers_left l.dims_left l.names_left

pub dim_leaves : (v : Values) (k e d : ℕ) → length v.operands.kept ≡ suc k → length v.operands.expressions ≡ suc e → length v.types.dims ≡ suc d → Leaves (rule.dim v) k e (length v.operands.arguments) (length v.types.bases) (length v.types.pointers) (suc d) (length v.types.names)
dim_leaves v k e d = dim_by_leaves v.operands.kept v.operands.expressions v k e d

open_dim_by_leaves : (kept : List Kept) (v : Values) (k d : ℕ) → length kept ≡ suc k → length v.types.dims ≡ suc d → Leaves (rule.open_dim_by kept v) k (length v.operands.expressions) (length v.operands.arguments) (length v.types.bases) (length v.types.pointers) (suc d) (length v.types.names)
open_dim_by_leaves [] v k d h h' = absurd (too_short_1_0 h)
open_dim_by_leaves (t ∷ kept) v k d h h' =
    let l = types.add_dim_leaves (unsized t.word.place) v.types d h' in
    leaving (ap (option_map (λ (types : TypeValues). record { operands = record v.operands { kept = kept }; types = types })) l.is_made) (drop_1_0 h) refl refl l.bases_left l.pointers_left l.dims_left l.names_left

pub open_dim_leaves : (v : Values) (k d : ℕ) → length v.operands.kept ≡ suc k → length v.types.dims ≡ suc d → Leaves (rule.open_dim v) k (length v.operands.expressions) (length v.operands.arguments) (length v.types.bases) (length v.types.pointers) (suc d) (length v.types.names)
open_dim_leaves v k d = open_dim_by_leaves v.operands.kept v k d

-- ---- casts and `sizeof`

cast_by_leaves : (kept : List Kept) (names : List TypeName) (es : List Expression) (v : Values) (k n e : ℕ) → length kept ≡ suc k → length names ≡ suc n → length es ≡ suc e → Leaves (rule.cast_by kept names es v) k (suc e) (length v.operands.arguments) (length v.types.bases) (length v.types.pointers) (length v.types.dims) n
cast_by_leaves [] names es v k n e h h' h'' = absurd (too_short_1_0 h)
cast_by_leaves (t ∷ kept) [] es v k n e h h' h'' = absurd (too_short_1_0 h')
cast_by_leaves (t ∷ kept) (x ∷ names) [] v k n e h h' h'' = absurd (too_short_1_0 h'')
cast_by_leaves (t ∷ kept) (x ∷ names) (y ∷ es) v k n e h h' h'' = leaving refl (drop_1_0 h) (drop_1_1 h'') refl refl refl refl (drop_1_0 h')

pub cast_leaves : (v : Values) (k n e : ℕ) → length v.operands.kept ≡ suc k → length v.types.names ≡ suc n → length v.operands.expressions ≡ suc e → Leaves (rule.cast v) k (suc e) (length v.operands.arguments) (length v.types.bases) (length v.types.pointers) (length v.types.dims) n
cast_leaves v k n e = cast_by_leaves v.operands.kept v.types.names v.operands.expressions v k n e

sizeof_type_by_leaves : (kept : List Kept) (names : List TypeName) (v : Values) (k n : ℕ) → length kept ≡ suc (suc k) → length names ≡ suc n → Leaves (rule.sizeof_type_by kept names v) k (suc (length v.operands.expressions)) (length v.operands.arguments) (length v.types.bases) (length v.types.pointers) (length v.types.dims) n
sizeof_type_by_leaves [] names v k n h h' = absurd (too_short_2_0 h)
sizeof_type_by_leaves (t ∷ []) names v k n h h' = absurd (too_short_2_1 h)
sizeof_type_by_leaves (t ∷ u ∷ kept) [] v k n h h' = absurd (too_short_1_0 h')
sizeof_type_by_leaves (t ∷ u ∷ kept) (x ∷ names) v k n h h' = leaving refl (drop_2_0 h) refl refl refl refl refl (drop_1_0 h')

pub sizeof_type_leaves : (v : Values) (k n : ℕ) → length v.operands.kept ≡ suc (suc k) → length v.types.names ≡ suc n → Leaves (rule.sizeof_type v) k (suc (length v.operands.expressions)) (length v.operands.arguments) (length v.types.bases) (length v.types.pointers) (length v.types.dims) n
sizeof_type_leaves v k n = sizeof_type_by_leaves v.operands.kept v.types.names v k n
