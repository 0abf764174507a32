-- Where the stacks of types hold what an action takes, its rule makes new ones, and they hold what it gives.
use Rattle.std.proofs.Common.{◌≡◌, ℕ, suc, List, [], ◌∷◌, refl, Option, Some}
use Rattle.std.specs.Prelude.{length}
use Rattle.rvt_tree.specs.declared.places.Place.{Place}
use Rattle.c_syntax.specs.declared.bases.Pointer.{Pointer}
use Rattle.c_syntax.specs.Syntax.{Dimension}
use Rattle.c_tokens.specs.declared.tokens.TokenClass.{TokenClass}
use Rattle.expression_actions.specs.declared.half_bases.HalfBase.{HalfBase}
use Rattle.expression_actions.specs.TypeRules as rule
use Rattle.expression_actions.specs.Stacks.{TypeValues}
use Rattle.expression_actions.proofs.Lengths.{too_short_1_0, drop_1_0, drop_1_1}

-- a rule that makes stacks of these lengths
pub record Leaves (result : Option TypeValues) (bases pointers dims names : ℕ) : Type 0 where
  pub made : TypeValues
  pub is_made : result ≡ Some made
  pub bases_left : length made.bases ≡ bases
  pub pointers_left : length made.pointers ≡ pointers
  pub dims_left : length made.dims ≡ dims
  pub names_left : length made.names ≡ names

leaving : {result : Option TypeValues} {made : TypeValues} {b p d n : ℕ} → result ≡ Some made → length made.bases ≡ b → length made.pointers ≡ p → length made.dims ≡ d → length made.names ≡ n → Leaves result b p d n
leaving {made = made} is_made b p d n = record { made = made; is_made = is_made; bases_left = b; pointers_left = p; dims_left = d; names_left = n }

-- ---- bases

pub new_base_leaves : (v : TypeValues) → Leaves (rule.new_base v) (suc (length v.bases)) (length v.pointers) (length v.dims) (length v.names)
new_base_leaves v = leaving refl refl refl refl refl

base_becomes_leaves : (changed : HalfBase → HalfBase) (bases : List HalfBase) (v : TypeValues) (b : ℕ) → length bases ≡ suc b → Leaves (rule.base_becomes changed bases v) (suc b) (length v.pointers) (length v.dims) (length v.names)
base_becomes_leaves changed [] v b h = absurd (too_short_1_0 h)
base_becomes_leaves changed (base ∷ bases) v b h = leaving refl (drop_1_1 h) refl refl refl

pub begin_leaves : (place : Place) (v : TypeValues) (b : ℕ) → length v.bases ≡ suc b → Leaves (rule.begin place v) (suc b) (length v.pointers) (length v.dims) (length v.names)
begin_leaves place v b = base_becomes_leaves _ v.bases v b

pub constant_leaves : (place : Place) (v : TypeValues) (b : ℕ) → length v.bases ≡ suc b → Leaves (rule.constant place v) (suc b) (length v.pointers) (length v.dims) (length v.names)
constant_leaves place v b = base_becomes_leaves _ v.bases v b

pub type_word_leaves : (class : TokenClass) (place : Place) (v : TypeValues) (b : ℕ) → length v.bases ≡ suc b → Leaves (rule.type_word class place v) (suc b) (length v.pointers) (length v.dims) (length v.names)
type_word_leaves class place v b = base_becomes_leaves _ v.bases v b

pub named_leaves : (text : List ℕ) (place : Place) (v : TypeValues) (b : ℕ) → length v.bases ≡ suc b → Leaves (rule.named text place v) (suc b) (length v.pointers) (length v.dims) (length v.names)
named_leaves text place v b = base_becomes_leaves _ v.bases v b

pub struct_tag_leaves : (text : List ℕ) (place : Place) (v : TypeValues) (b : ℕ) → length v.bases ≡ suc b → Leaves (rule.struct_tag text place v) (suc b) (length v.pointers) (length v.dims) (length v.names)
struct_tag_leaves text place v b = base_becomes_leaves _ v.bases v b

pub no_struct_tag_leaves : (v : TypeValues) (b : ℕ) → length v.bases ≡ suc b → Leaves (rule.no_struct_tag v) (suc b) (length v.pointers) (length v.dims) (length v.names)
no_struct_tag_leaves v b = base_becomes_leaves _ v.bases v b

pub enum_tag_leaves : (text : List ℕ) (place : Place) (v : TypeValues) (b : ℕ) → length v.bases ≡ suc b → Leaves (rule.enum_tag text place v) (suc b) (length v.pointers) (length v.dims) (length v.names)
enum_tag_leaves text place v b = base_becomes_leaves _ v.bases v b

pub no_enum_tag_leaves : (v : TypeValues) (b : ℕ) → length v.bases ≡ suc b → Leaves (rule.no_enum_tag v) (suc b) (length v.pointers) (length v.dims) (length v.names)
no_enum_tag_leaves v b = base_becomes_leaves _ v.bases v b

-- ---- pointers

pub pointer_leaves : (place : Place) (v : TypeValues) → Leaves (rule.pointer place v) (length v.bases) (suc (length v.pointers)) (length v.dims) (length v.names)
pointer_leaves place v = leaving refl refl refl refl refl

pub no_pointer_leaves : (v : TypeValues) → Leaves (rule.no_pointer v) (length v.bases) (suc (length v.pointers)) (length v.dims) (length v.names)
no_pointer_leaves v = leaving refl refl refl refl refl

pointer_constant_by_leaves : (pointers : List (Option Pointer)) (v : TypeValues) (p : ℕ) → length pointers ≡ suc p → Leaves (rule.pointer_constant_by pointers v) (length v.bases) (suc p) (length v.dims) (length v.names)
pointer_constant_by_leaves [] v p h = absurd (too_short_1_0 h)
pointer_constant_by_leaves (x ∷ pointers) v p h = leaving refl refl (drop_1_1 h) refl refl

pub pointer_constant_leaves : (v : TypeValues) (p : ℕ) → length v.pointers ≡ suc p → Leaves (rule.pointer_constant v) (length v.bases) (suc p) (length v.dims) (length v.names)
pointer_constant_leaves v p = pointer_constant_by_leaves v.pointers v p

-- ---- dimensions and types

pub no_dims_leaves : (v : TypeValues) → Leaves (rule.no_dims v) (length v.bases) (length v.pointers) (suc (length v.dims)) (length v.names)
no_dims_leaves v = leaving refl refl refl refl refl

add_dim_by_leaves : (x : Dimension) (lists : List (List Dimension)) (v : TypeValues) (d : ℕ) → length lists ≡ suc d → Leaves (rule.add_dim_by x lists v) (length v.bases) (length v.pointers) (suc d) (length v.names)
add_dim_by_leaves x [] v d h = absurd (too_short_1_0 h)
add_dim_by_leaves x (l ∷ lists) v d h = leaving refl refl refl (drop_1_1 h) refl

pub add_dim_leaves : (x : Dimension) (v : TypeValues) (d : ℕ) → length v.dims ≡ suc d → Leaves (rule.add_dim x v) (length v.bases) (length v.pointers) (suc d) (length v.names)
add_dim_leaves x v d = add_dim_by_leaves x v.dims v d

type_name_by_leaves : (bases : List HalfBase) (pointers : List (Option Pointer)) (lists : List (List Dimension)) (v : TypeValues) (b p d : ℕ) → length bases ≡ suc b → length pointers ≡ suc p → length lists ≡ suc d → Leaves (rule.type_name_by bases pointers lists v) b p d (suc (length v.names))
type_name_by_leaves [] pointers lists v b p d h h' h'' = absurd (too_short_1_0 h)
type_name_by_leaves (x ∷ bases) [] lists v b p d h h' h'' = absurd (too_short_1_0 h')
type_name_by_leaves (x ∷ bases) (y ∷ pointers) [] v b p d h h' h'' = absurd (too_short_1_0 h'')
type_name_by_leaves (x ∷ bases) (y ∷ pointers) (l ∷ lists) v b p d h h' h'' = leaving refl (drop_1_0 h) (drop_1_0 h') (drop_1_0 h'') refl

pub type_name_leaves : (v : TypeValues) (b p d : ℕ) → length v.bases ≡ suc b → length v.pointers ≡ suc p → length v.dims ≡ suc d → Leaves (rule.type_name v) b p d (suc (length v.names))
type_name_leaves v b p d = type_name_by_leaves v.bases v.pointers v.dims v b p d
