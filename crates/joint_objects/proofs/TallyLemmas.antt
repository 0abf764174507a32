-- The most parameters of one function that point to a type are those that the tallies count.
use Rattle.std.proofs.Common.{◌≡◌, ℕ, suc, ◌+◌, ◌<◌, ◌≤◌, max, Bool, true, false, cond, List, [], ◌∷◌, length, nat_eq, if◌then◌else◌, Option, Some, None, unwrap_or, ◌⊎◌, inl, inr, refl, sym, ap, ◌∙◌, subst, arith}
use Rattle.std.proofs.lemmas.Bool.Decides.{eqb_tells}
use Rattle.rvt_num.specs.declared.kinds.Kind.{Kind}
use Rattle.rvt_num.specs.declared.kinds.Kind.TheVariants as k
use Rattle.rvt_tree.specs.declared.types.Pointee.{Pointee}
use Rattle.rvt_tree.specs.declared.types.Pointee.TheVariants as P
use Rattle.rvt_tree.specs.declared.programs.Local.{Local}
use Rattle.rvt_tree.specs.declared.programs.Function.{Function}
use Rattle.c_types.specs.Layout.{Shape, AWord, APointer, AnArray, AStruct, shape_of, same_kind, same_pointee}
use Rattle.joint_objects.specs.declared.tallies.Tally.{Tally}
use Rattle.joint_objects.specs.Extras.{points_to, pointers_among, most_pointers}
use Rattle.joint_objects.specs.Tallies.{kind_place, place_of, nothing_met, met_in, one_more, with_pointee, with_param, with_params, with_functions}

-- ---- places

kinds_alike : (a b : Kind) → nat_eq (kind_place b) (kind_place a) ≡ same_kind a b
kinds_alike k.Bool k.Bool = refl
kinds_alike k.Bool k.I8 = refl
kinds_alike k.Bool k.U8 = refl
kinds_alike k.Bool k.I16 = refl
kinds_alike k.Bool k.U16 = refl
kinds_alike k.Bool k.I32 = refl
kinds_alike k.Bool k.U32 = refl
kinds_alike k.Bool k.I64 = refl
kinds_alike k.Bool k.U64 = refl
kinds_alike k.I8 k.Bool = refl
kinds_alike k.I8 k.I8 = refl
kinds_alike k.I8 k.U8 = refl
kinds_alike k.I8 k.I16 = refl
kinds_alike k.I8 k.U16 = refl
kinds_alike k.I8 k.I32 = refl
kinds_alike k.I8 k.U32 = refl
kinds_alike k.I8 k.I64 = refl
kinds_alike k.I8 k.U64 = refl
kinds_alike k.U8 k.Bool = refl
kinds_alike k.U8 k.I8 = refl
kinds_alike k.U8 k.U8 = refl
kinds_alike k.U8 k.I16 = refl
kinds_alike k.U8 k.U16 = refl
kinds_alike k.U8 k.I32 = refl
kinds_alike k.U8 k.U32 = refl
kinds_alike k.U8 k.I64 = refl
kinds_alike k.U8 k.U64 = refl
kinds_alike k.I16 k.Bool = refl
kinds_alike k.I16 k.I8 = refl
kinds_alike k.I16 k.U8 = refl
kinds_alike k.I16 k.I16 = refl
kinds_alike k.I16 k.U16 = refl
kinds_alike k.I16 k.I32 = refl
kinds_alike k.I16 k.U32 = refl
kinds_alike k.I16 k.I64 = refl
kinds_alike k.I16 k.U64 = refl
kinds_alike k.U16 k.Bool = refl
kinds_alike k.U16 k.I8 = refl
kinds_alike k.U16 k.U8 = refl
kinds_alike k.U16 k.I16 = refl
kinds_alike k.U16 k.U16 = refl
kinds_alike k.U16 k.I32 = refl
kinds_alike k.U16 k.U32 = refl
kinds_alike k.U16 k.I64 = refl
kinds_alike k.U16 k.U64 = refl
kinds_alike k.I32 k.Bool = refl
kinds_alike k.I32 k.I8 = refl
kinds_alike k.I32 k.U8 = refl
kinds_alike k.I32 k.I16 = refl
kinds_alike k.I32 k.U16 = refl
kinds_alike k.I32 k.I32 = refl
kinds_alike k.I32 k.U32 = refl
kinds_alike k.I32 k.I64 = refl
kinds_alike k.I32 k.U64 = refl
kinds_alike k.U32 k.Bool = refl
kinds_alike k.U32 k.I8 = refl
kinds_alike k.U32 k.U8 = refl
kinds_alike k.U32 k.I16 = refl
kinds_alike k.U32 k.U16 = refl
kinds_alike k.U32 k.I32 = refl
kinds_alike k.U32 k.U32 = refl
kinds_alike k.U32 k.I64 = refl
kinds_alike k.U32 k.U64 = refl
kinds_alike k.I64 k.Bool = refl
kinds_alike k.I64 k.I8 = refl
kinds_alike k.I64 k.U8 = refl
kinds_alike k.I64 k.I16 = refl
kinds_alike k.I64 k.U16 = refl
kinds_alike k.I64 k.I32 = refl
kinds_alike k.I64 k.U32 = refl
kinds_alike k.I64 k.I64 = refl
kinds_alike k.I64 k.U64 = refl
kinds_alike k.U64 k.Bool = refl
kinds_alike k.U64 k.I8 = refl
kinds_alike k.U64 k.U8 = refl
kinds_alike k.U64 k.I16 = refl
kinds_alike k.U64 k.U16 = refl
kinds_alike k.U64 k.I32 = refl
kinds_alike k.U64 k.U32 = refl
kinds_alike k.U64 k.I64 = refl
kinds_alike k.U64 k.U64 = refl

below_nine : (a : Kind) → kind_place a < 9
below_nine k.Bool = omega arith
below_nine k.I8 = omega arith
below_nine k.U8 = omega arith
below_nine k.I16 = omega arith
below_nine k.U16 = omega arith
below_nine k.I32 = omega arith
below_nine k.U32 = omega arith
below_nine k.I64 = omega arith
below_nine k.U64 = omega arith

unequal : (a b : ℕ) → (a ≡ b → ⊥) → nat_eq a b ≡ false
unequal a b differ = by (eqb_tells a b)
  where
    by : ((nat_eq a b ≡ true) × (a ≡ b)) ⊎ ((nat_eq a b ≡ false) × (a ≡ b → ⊥)) → nat_eq a b ≡ false
    by (inl x) = absurd (differ x.1)
    by (inr x) = x.0

alike : (a b c d : ℕ) → (a ≡ b → c ≡ d) → (c ≡ d → a ≡ b) → nat_eq a b ≡ nat_eq c d
alike a b c d there back = by (eqb_tells a b) (eqb_tells c d)
  where
    by : ((nat_eq a b ≡ true) × (a ≡ b)) ⊎ ((nat_eq a b ≡ false) × (a ≡ b → ⊥)) → ((nat_eq c d ≡ true) × (c ≡ d)) ⊎ ((nat_eq c d ≡ false) × (c ≡ d → ⊥)) → nat_eq a b ≡ nat_eq c d
    by (inl x) (inl y) = x.0 ∙ sym y.0
    by (inr x) (inr y) = x.0 ∙ sym y.0
    by (inl x) (inr y) = absurd (y.1 (there x.1))
    by (inr x) (inl y) = absurd (x.1 (back y.1))

places_alike : (p q : Pointee) → nat_eq (place_of q) (place_of p) ≡ same_pointee p q
places_alike (P.Word a) (P.Word b) = kinds_alike a b
places_alike (P.Word a) (P.Struct b) = let low : kind_place a < 9 = below_nine a in unequal (b + 9) (kind_place a) (λ (e : b + 9 ≡ kind_place a). omega (arith, e, low))
places_alike (P.Struct a) (P.Word b) = let low : kind_place b < 9 = below_nine b in unequal (kind_place b) (a + 9) (λ (e : kind_place b ≡ a + 9). omega (arith, e, low))
places_alike (P.Struct a) (P.Struct b) =
    alike (b + 9) (a + 9) a b (λ (e : b + 9 ≡ a + 9). let back : a ≡ b = omega (arith, e) in back) (λ (e : a ≡ b). let there : b + 9 ≡ a + 9 = omega (arith, e) in there)

-- ---- one function

met_below : (function : ℕ) (tally : Tally) → tally.count ≤ tally.most → met_in function tally ≤ tally.most
met_below function tally below = by (nat_eq tally.function function)
  where
    by : (b : Bool) → (if b then tally.count else 0) ≤ tally.most
    by true = below
    by false = omega arith

met_same : (function : ℕ) (count most : ℕ) → met_in function (record { function = function; count = count; most = most }) ≡ count
met_same function count most = by (eqb_tells function function)
  where
    by : ((nat_eq function function ≡ true) × (function ≡ function)) ⊎ ((nat_eq function function ≡ false) × (function ≡ function → ⊥)) → (if nat_eq function function then count else 0) ≡ count
    by (inl x) = ap (λ (b : Bool). if b then count else 0) x.0
    by (inr x) = absurd (x.1 refl)

-- so many more were met in this function
pub record Further (function count : ℕ) (before after : Tally) : Type 0 where
  pub met : met_in function after ≡ met_in function before + count
  pub most : after.most ≡ max before.most (met_in function before + count)
  pub below : after.count ≤ after.most
  pub number : (after.function ≡ before.function) ⊎ (after.function ≡ function)

none_further : (function : ℕ) (tally : Tally) → tally.count ≤ tally.most → Further function 0 tally tally
none_further function tally below =
    let low : met_in function tally ≤ tally.most = met_below function tally below in
    record { met = omega arith; most = omega (arith, low); below = below; number = inl refl }

one_further : (function : ℕ) (tally : Tally) → Further function 1 tally (one_more function tally)
one_further function tally =
    let m : ℕ = met_in function tally in
    let after : Tally = one_more function tally in
    record { met = met_same function (met_in function tally + 1) (max tally.most (met_in function tally + 1)); most = refl; below = omega arith; number = inr refl }

further_param : (p : Pointee) (function : ℕ) (shape : Shape) (tally : Tally) → tally.count ≤ tally.most →
    Further function (if points_to p shape then 1 else 0) tally (with_param (place_of p) function shape tally)
further_param p function (AWord kind) tally below = none_further function tally below
further_param p function (APointer q constant) tally below =
    subst (λ (b : Bool). Further function (if same_pointee p q then 1 else 0) tally (if b then one_more function tally else tally)) (sym (places_alike p q)) (by (same_pointee p q))
  where
    by : (b : Bool) → Further function (if b then 1 else 0) tally (if b then one_more function tally else tally)
    by true = one_further function tally
    by false = none_further function tally below
further_param p function (AnArray element count) tally below = none_further function tally below
further_param p function (AStruct number) tally below = none_further function tally below

both_further : (function m n : ℕ) (a b c : Tally) → Further function m a b → Further function n b c → Further function (m + n) a c
both_further function m n a b c first second =
    record {
      met = omega (arith, first.met, second.met);
      most = omega (arith, first.met, first.most, second.most);
      below = second.below;
      number = by second.number first.number;
    }
  where
    by : (c.function ≡ b.function) ⊎ (c.function ≡ function) → (b.function ≡ a.function) ⊎ (b.function ≡ function) → (c.function ≡ a.function) ⊎ (c.function ≡ function)
    by (inl x) (inl y) = inl (x ∙ y)
    by (inl x) (inr y) = inr (x ∙ y)
    by (inr x) other = inr x

further_params : (p : Pointee) (function : ℕ) (params : List Local) (tally : Tally) → tally.count ≤ tally.most →
    Further function (pointers_among p params) tally (with_params (place_of p) function params tally)
further_params p function [] tally below = none_further function tally below
further_params p function (param ∷ rest) tally below =
    let next : Tally = with_param (place_of p) function (shape_of param.ty) tally in
    let first : Further function (if points_to p (shape_of param.ty) then 1 else 0) tally (with_param (place_of p) function (shape_of param.ty) tally) = further_param p function (shape_of param.ty) tally below in
    both_further function (if points_to p (shape_of param.ty) then 1 else 0) (pointers_among p rest) tally (with_param (place_of p) function (shape_of param.ty) tally)
    (with_params (place_of p) function rest (with_param (place_of p) function (shape_of param.ty) tally))
    first (further_params p function rest (with_param (place_of p) function (shape_of param.ty) tally) first.below)

-- ---- all functions

not_met : (function : ℕ) (tally : Tally) → tally.function < function → met_in function tally ≡ 0
not_met function tally low = ap (λ (b : Bool). if b then tally.count else 0) (unequal tally.function function (λ (e : tally.function ≡ function). omega (arith, e, low)))

number_below : (n : ℕ) (a b : ℕ) → (b ≡ a) ⊎ (b ≡ n + 1) → a ≤ n → b ≤ n + 1
number_below n a b (inl x) low = omega (arith, x, low)
number_below n a b (inr x) low = omega (arith, x)

most_after : (p : Pointee) (functions : List Function) (n : ℕ) (tally : Tally) → tally.function ≤ n → tally.count ≤ tally.most →
    (with_functions (place_of p) n functions tally).most ≡ max tally.most (most_pointers p functions)
most_after p [] n tally low below = omega arith
most_after p (f ∷ rest) n tally low below =
    let first : Further (n + 1) (pointers_among p f.params) tally (with_params (place_of p) (n + 1) f.params tally) = further_params p (n + 1) f.params tally below in
    let new : met_in (n + 1) tally ≡ 0 = not_met (n + 1) tally (omega (arith, low)) in
    let later : (with_functions (place_of p) (n + 1) rest (with_params (place_of p) (n + 1) f.params tally)).most ≡ max (with_params (place_of p) (n + 1) f.params tally).most (most_pointers p rest) =
    most_after p rest (n + 1) (with_params (place_of p) (n + 1) f.params tally)
    (number_below n tally.function (with_params (place_of p) (n + 1) f.params tally).function first.number low) first.below in
    omega (arith, first.most, new, later)

pub most_tallied : (p : Pointee) (functions : List Function) → (with_functions (place_of p) 0 functions nothing_met).most ≡ most_pointers p functions
most_tallied p functions = let all : (with_functions (place_of p) 0 functions nothing_met).most ≡ max 0 (most_pointers p functions) = most_after p functions 0 nothing_met (omega arith) (omega arith) in omega (arith, all)

pub most_at_end : (p : Pointee) (n : ℕ) (functions left : List Function) (tally : Tally) → length left ≡ 0 →
    with_functions (place_of p) n left tally ≡ with_functions (place_of p) 0 functions nothing_met → tally.most ≡ most_pointers p functions
most_at_end p n functions [] tally ended held = ap (λ (t : Tally). t.most) held ∙ most_tallied p functions
most_at_end p n functions (f ∷ rest) tally ended held = absurd (omega (arith, ended))

-- ---- one more parameter in a table

pub with_put : (T : ℕ → Option Tally) (q : Pointee) (function place p : ℕ) (before more : Tally) (new : Option Tally) → place ≡ place_of q → before ≡ unwrap_or (T place) nothing_met → more ≡ one_more function before →
    new ≡ cond (nat_eq place p) (Some more) (T p) → unwrap_or new nothing_met ≡ with_pointee p function (Some q) (unwrap_or (T p) nothing_met)
with_put T q function place p before more new at was is put =
    ap (λ (o : Option Tally). unwrap_or o nothing_met) put ∙ by (eqb_tells place p) ∙ ap (λ (n : ℕ). if nat_eq n p then one_more function (unwrap_or (T p) nothing_met) else unwrap_or (T p) nothing_met) at
  where
    by : ((nat_eq place p ≡ true) × (place ≡ p)) ⊎ ((nat_eq place p ≡ false) × (place ≡ p → ⊥))
        → unwrap_or (cond (nat_eq place p) (Some more) (T p)) nothing_met ≡ (if nat_eq place p then one_more function (unwrap_or (T p) nothing_met) else unwrap_or (T p) nothing_met)
    by (inl x) =
        ap (λ (b : Bool). unwrap_or (cond b (Some more) (T p)) nothing_met) x.0
        ∙ is ∙ ap (one_more function) (was ∙ ap (λ (n : ℕ). unwrap_or (T n) nothing_met) x.1)
        ∙ sym (ap (λ (b : Bool). if b then one_more function (unwrap_or (T p) nothing_met) else unwrap_or (T p) nothing_met) x.0)
    by (inr x) =
        ap (λ (b : Bool). unwrap_or (cond b (Some more) (T p)) nothing_met) x.0
        ∙ sym (ap (λ (b : Bool). if b then one_more function (unwrap_or (T p) nothing_met) else unwrap_or (T p) nothing_met) x.0)
