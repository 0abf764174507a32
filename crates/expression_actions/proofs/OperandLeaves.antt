-- Where the stacks of expressions hold what an action takes, its rule makes new ones, and they hold what it gives.
use Rattle.std.proofs.Common.{◌≡◌, ℕ, suc, List, [], ◌∷◌, refl, Option, Some}
use Rattle.std.specs.Prelude.{length}
use Rattle.rvt_tree.specs.declared.places.Place.{Place}
use Rattle.c_syntax.specs.Syntax.{Expression}
use Rattle.c_tokens.specs.declared.tokens.TokenClass.{TokenClass}
use Rattle.expression_actions.specs.declared.kept_tokens.Kept.{Kept}
use Rattle.expression_actions.specs.OperandRules as rule
use Rattle.expression_actions.specs.Stacks.{OperandValues}
use Rattle.expression_actions.proofs.Lengths.{too_short_1_0, too_short_2_0, too_short_2_1, too_short_3_0, too_short_3_1, too_short_3_2, drop_1_0, drop_1_1, drop_2_0, drop_2_1, drop_3_1}

-- a rule that makes stacks of these lengths
pub record Leaves (result : Option OperandValues) (kept expressions arguments : ℕ) : Type 0 where
  pub made : OperandValues
  pub is_made : result ≡ Some made
  pub kept_left : length made.kept ≡ kept
  pub expressions_left : length made.expressions ≡ expressions
  pub arguments_left : length made.arguments ≡ arguments

leaving : {result : Option OperandValues} {made : OperandValues} {k e a : ℕ} → result ≡ Some made → length made.kept ≡ k → length made.expressions ≡ e → length made.arguments ≡ a → Leaves result k e a
leaving {made = made} is_made k e a = record { made = made; is_made = is_made; kept_left = k; expressions_left = e; arguments_left = a }

pub keep_leaves : (class : TokenClass) (text : List ℕ) (place : Place) (v : OperandValues) → Leaves (rule.keep class text place v) (suc (length v.kept)) (length v.expressions) (length v.arguments)
keep_leaves class text place v = leaving refl refl refl refl

name_by_leaves : (kept : List Kept) (v : OperandValues) (k : ℕ) → length kept ≡ suc k → Leaves (rule.name_by kept v) k (suc (length v.expressions)) (length v.arguments)
name_by_leaves [] v k h = absurd (too_short_1_0 h)
name_by_leaves (t ∷ kept) v k h = leaving refl (drop_1_0 h) refl refl

pub name_leaves : (v : OperandValues) (k : ℕ) → length v.kept ≡ suc k → Leaves (rule.name v) k (suc (length v.expressions)) (length v.arguments)
name_leaves v k = name_by_leaves v.kept v k

pub constant_leaves : (class : TokenClass) (place : Place) (v : OperandValues) → Leaves (rule.constant class place v) (length v.kept) (suc (length v.expressions)) (length v.arguments)
constant_leaves class place v = leaving refl refl refl refl

pub no_arguments_leaves : (v : OperandValues) → Leaves (rule.no_arguments v) (length v.kept) (length v.expressions) (suc (length v.arguments))
no_arguments_leaves v = leaving refl refl refl refl

add_argument_by_leaves : (es : List Expression) (lists : List (List Expression)) (v : OperandValues) (e a : ℕ) → length es ≡ suc e → length lists ≡ suc a → Leaves (rule.add_argument_by es lists v) (length v.kept) e (suc a)
add_argument_by_leaves [] lists v e a h h' = absurd (too_short_1_0 h)
add_argument_by_leaves (x ∷ es) [] v e a h h' = absurd (too_short_1_0 h')
add_argument_by_leaves (x ∷ es) (l ∷ lists) v e a h h' = leaving refl refl (drop_1_0 h) (drop_1_1 h')

pub add_argument_leaves : (v : OperandValues) (e a : ℕ) → length v.expressions ≡ suc e → length v.arguments ≡ suc a → Leaves (rule.add_argument v) (length v.kept) e (suc a)
add_argument_leaves v e a = add_argument_by_leaves v.expressions v.arguments v e a

call_by_leaves : (kept : List Kept) (lists : List (List Expression)) (v : OperandValues) (k a : ℕ) → length kept ≡ suc k → length lists ≡ suc a → Leaves (rule.call_by kept lists v) k (suc (length v.expressions)) a
call_by_leaves [] lists v k a h h' = absurd (too_short_1_0 h)
call_by_leaves (t ∷ kept) [] v k a h h' = absurd (too_short_1_0 h')
call_by_leaves (t ∷ kept) (l ∷ lists) v k a h h' = leaving refl (drop_1_0 h) refl (drop_1_0 h')

pub call_leaves : (v : OperandValues) (k a : ℕ) → length v.kept ≡ suc k → length v.arguments ≡ suc a → Leaves (rule.call v) k (suc (length v.expressions)) a
call_leaves v k a = call_by_leaves v.kept v.arguments v k a

parenthesized_by_leaves : (kept : List Kept) (es : List Expression) (v : OperandValues) (k e : ℕ) → length kept ≡ suc k → length es ≡ suc e → Leaves (rule.parenthesized_by kept es v) k (suc e) (length v.arguments)
parenthesized_by_leaves [] es v k e h h' = absurd (too_short_1_0 h)
parenthesized_by_leaves (t ∷ kept) [] v k e h h' = absurd (too_short_1_0 h')
parenthesized_by_leaves (t ∷ kept) (x ∷ es) v k e h h' = leaving refl (drop_1_0 h) (drop_1_1 h') refl

pub parenthesized_leaves : (v : OperandValues) (k e : ℕ) → length v.kept ≡ suc k → length v.expressions ≡ suc e → Leaves (rule.parenthesized v) k (suc e) (length v.arguments)
parenthesized_leaves v k e = parenthesized_by_leaves v.kept v.expressions v k e

unary_by_leaves : (kept : List Kept) (es : List Expression) (v : OperandValues) (k e : ℕ) → length kept ≡ suc k → length es ≡ suc e → Leaves (rule.unary_by kept es v) k (suc e) (length v.arguments)
unary_by_leaves [] es v k e h h' = absurd (too_short_1_0 h)
unary_by_leaves (t ∷ kept) [] v k e h h' = absurd (too_short_1_0 h')
unary_by_leaves (t ∷ kept) (x ∷ es) v k e h h' = leaving refl (drop_1_0 h) (drop_1_1 h') refl

pub unary_leaves : (v : OperandValues) (k e : ℕ) → length v.kept ≡ suc k → length v.expressions ≡ suc e → Leaves (rule.unary v) k (suc e) (length v.arguments)
unary_leaves v k e = unary_by_leaves v.kept v.expressions v k e

sizeof_expression_by_leaves : (kept : List Kept) (es : List Expression) (v : OperandValues) (k e : ℕ) → length kept ≡ suc k → length es ≡ suc e → Leaves (rule.sizeof_expression_by kept es v) k (suc e) (length v.arguments)
sizeof_expression_by_leaves [] es v k e h h' = absurd (too_short_1_0 h)
sizeof_expression_by_leaves (t ∷ kept) [] v k e h h' = absurd (too_short_1_0 h')
sizeof_expression_by_leaves (t ∷ kept) (x ∷ es) v k e h h' = leaving refl (drop_1_0 h) (drop_1_1 h') refl

pub sizeof_expression_leaves : (v : OperandValues) (k e : ℕ) → length v.kept ≡ suc k → length v.expressions ≡ suc e → Leaves (rule.sizeof_expression v) k (suc e) (length v.arguments)
sizeof_expression_leaves v k e = sizeof_expression_by_leaves v.kept v.expressions v k e

index_by_leaves : (kept : List Kept) (es : List Expression) (v : OperandValues) (k e : ℕ) → length kept ≡ suc k → length es ≡ suc (suc e) → Leaves (rule.index_by kept es v) k (suc e) (length v.arguments)
index_by_leaves [] es v k e h h' = absurd (too_short_1_0 h)
index_by_leaves (t ∷ kept) [] v k e h h' = absurd (too_short_2_0 h')
index_by_leaves (t ∷ kept) (x ∷ []) v k e h h' = absurd (too_short_2_1 h')
index_by_leaves (t ∷ kept) (x ∷ y ∷ es) v k e h h' = leaving refl (drop_1_0 h) (drop_2_1 h') refl

pub index_leaves : (v : OperandValues) (k e : ℕ) → length v.kept ≡ suc k → length v.expressions ≡ suc (suc e) → Leaves (rule.index v) k (suc e) (length v.arguments)
index_leaves v k e = index_by_leaves v.kept v.expressions v k e

dot_by_leaves : (kept : List Kept) (es : List Expression) (v : OperandValues) (k e : ℕ) → length kept ≡ suc (suc k) → length es ≡ suc e → Leaves (rule.dot_by kept es v) k (suc e) (length v.arguments)
dot_by_leaves [] es v k e h h' = absurd (too_short_2_0 h)
dot_by_leaves (t ∷ []) es v k e h h' = absurd (too_short_2_1 h)
dot_by_leaves (t ∷ u ∷ kept) [] v k e h h' = absurd (too_short_1_0 h')
dot_by_leaves (t ∷ u ∷ kept) (x ∷ es) v k e h h' = leaving refl (drop_2_0 h) (drop_1_1 h') refl

pub dot_leaves : (v : OperandValues) (k e : ℕ) → length v.kept ≡ suc (suc k) → length v.expressions ≡ suc e → Leaves (rule.dot v) k (suc e) (length v.arguments)
dot_leaves v k e = dot_by_leaves v.kept v.expressions v k e

arrow_by_leaves : (kept : List Kept) (es : List Expression) (v : OperandValues) (k e : ℕ) → length kept ≡ suc (suc k) → length es ≡ suc e → Leaves (rule.arrow_by kept es v) k (suc e) (length v.arguments)
arrow_by_leaves [] es v k e h h' = absurd (too_short_2_0 h)
arrow_by_leaves (t ∷ []) es v k e h h' = absurd (too_short_2_1 h)
arrow_by_leaves (t ∷ u ∷ kept) [] v k e h h' = absurd (too_short_1_0 h')
arrow_by_leaves (t ∷ u ∷ kept) (x ∷ es) v k e h h' = leaving refl (drop_2_0 h) (drop_1_1 h') refl

pub arrow_leaves : (v : OperandValues) (k e : ℕ) → length v.kept ≡ suc (suc k) → length v.expressions ≡ suc e → Leaves (rule.arrow v) k (suc e) (length v.arguments)
arrow_leaves v k e = arrow_by_leaves v.kept v.expressions v k e

binary_by_leaves : (kept : List Kept) (es : List Expression) (v : OperandValues) (k e : ℕ) → length kept ≡ suc k → length es ≡ suc (suc e) → Leaves (rule.binary_by kept es v) k (suc e) (length v.arguments)
binary_by_leaves [] es v k e h h' = absurd (too_short_1_0 h)
binary_by_leaves (t ∷ kept) [] v k e h h' = absurd (too_short_2_0 h')
binary_by_leaves (t ∷ kept) (x ∷ []) v k e h h' = absurd (too_short_2_1 h')
binary_by_leaves (t ∷ kept) (x ∷ y ∷ es) v k e h h' = leaving refl (drop_1_0 h) (drop_2_1 h') refl

pub binary_leaves : (v : OperandValues) (k e : ℕ) → length v.kept ≡ suc k → length v.expressions ≡ suc (suc e) → Leaves (rule.binary v) k (suc e) (length v.arguments)
binary_leaves v k e = binary_by_leaves v.kept v.expressions v k e

conditional_by_leaves : (kept : List Kept) (es : List Expression) (v : OperandValues) (k e : ℕ) → length kept ≡ suc k → length es ≡ suc (suc (suc e)) → Leaves (rule.conditional_by kept es v) k (suc e) (length v.arguments)
conditional_by_leaves [] es v k e h h' = absurd (too_short_1_0 h)
conditional_by_leaves (t ∷ kept) [] v k e h h' = absurd (too_short_3_0 h')
conditional_by_leaves (t ∷ kept) (x ∷ []) v k e h h' = absurd (too_short_3_1 h')
conditional_by_leaves (t ∷ kept) (x ∷ y ∷ []) v k e h h' = absurd (too_short_3_2 h')
conditional_by_leaves (t ∷ kept) (x ∷ y ∷ z ∷ es) v k e h h' = leaving refl (drop_1_0 h) (drop_3_1 h') refl

pub conditional_leaves : (v : OperandValues) (k e : ℕ) → length v.kept ≡ suc k → length v.expressions ≡ suc (suc (suc e)) → Leaves (rule.conditional v) k (suc e) (length v.arguments)
conditional_leaves v k e = conditional_by_leaves v.kept v.expressions v k e
