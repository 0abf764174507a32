-- A word writes one number at most.
use Rattle.std.proofs.Common.{◌≡◌, ◌≢◌, ℕ, ◌-◌, ◌<◌, ◌≤◌, ◌^◌, ◌⊎◌, List, [], ◌∷◌, ◌++◌, refl, sym, ◌∙◌, ap, subst, inl, inr, arith, FitsSigned, to_z, of_z}
use Rattle.std.specs.Prelude.{ℤ, pos, negsuc, neg_ℤ, ◌≤ℤ◌, codes}
use Rattle.std.specs.Str.Parse.{digits_value}
use Rattle.std.proofs.lemmas.Int.{ints, fits_signed_from_abs, to_z-of_z}
use mir.Syntax.{w128}
use Rattle.call_arguments.specs.Texts.{AreDigitsOf, IsNear, IsWhole, unsigned, negated}

pub one_number : (digits digits' : List ℕ) (n m : ℕ) → digits ≡ digits' → AreDigitsOf digits n → AreDigitsOf digits' m → n ≡ m
one_number digits digits' n m same are are' = sym are.value ∙ ap (λ (d : List ℕ). digits_value 10 d) same ∙ are'.value

-- no digits begin with `-`
pub no_sign : (text digits : List ℕ) (n : ℕ) → text ≡ 45 ∷ digits → AreDigitsOf text n → ⊥
no_sign text digits n is are = let numeral = (subst (λ (t : List ℕ). AreDigitsOf t n) is are).numeral in omega (arith, numeral.1.0)

behind : (a b : List ℕ) → 45 ∷ a ≡ 45 ∷ b → a ≡ b
behind a b is = cc

pub one_whole : (text : List ℕ) (a b : ℤ) → IsWhole text a → IsWhole text b → a ≡ b
one_whole text _ _ (unsigned n are) (unsigned m are') = ap pos (one_number text text n m refl are are')
one_whole text _ _ (unsigned n are) (negated digits m is are') = absurd (no_sign text digits n is are)
one_whole text _ _ (negated digits n is are) (unsigned m are') = absurd (no_sign text digits m is are')
one_whole text _ _ (negated digits n is are) (negated digits' m is' are') = ap (λ (k : ℕ). neg_ℤ (pos k)) (one_number digits digits' n m (behind digits digits' (sym is ∙ is')) are are')

abbrev pub IsLarge : ℤ → Type 0
IsLarge whole = (pos (2 ^ 64) ≤ℤ whole) ⊎ (whole ≤ℤ neg_ℤ (pos (2 ^ 64)))

-- where the digits write a large number, so does the word
pub large_negated : (text digits : List ℕ) → text ≡ 45 ∷ digits → ((n : ℕ) → AreDigitsOf digits n → 2 ^ 64 ≤ n) → (whole : ℤ) → IsWhole text whole → IsLarge whole
large_negated text digits is large _ (unsigned n are) = absurd (no_sign text digits n is are)
large_negated text digits is large _ (negated digits' n is' are) =
    let over : 2 ^ 64 ≤ n = large n (subst (λ (d : List ℕ). AreDigitsOf d n) (behind digits' digits (sym is' ∙ is)) are) in
    inr (omega (arith, ints, over))

pub large_unsigned : (text : List ℕ) → ((rest : List ℕ) → text ≢ 45 ∷ rest) → ((n : ℕ) → AreDigitsOf text n → 2 ^ 64 ≤ n) → (whole : ℤ) → IsWhole text whole → IsLarge whole
large_unsigned text plain large _ (unsigned n are) = let over : 2 ^ 64 ≤ n = large n are in inl (omega (arith, ints, over))
large_unsigned text plain large _ (negated digits n is are) = absurd (plain digits is)

-- such numbers have 128 bits
near_fits : (z : ℤ) → IsNear z → FitsSigned w128 z
near_fits (pos n) near = let high : pos n ≤ℤ pos (2 ^ 64) = near.1 in fits_signed_from_abs w128 (pos n) (omega (arith, ints, high))
near_fits (negsuc n) near = let low : neg_ℤ (pos (2 ^ 64)) ≤ℤ negsuc n = near.0 in fits_signed_from_abs w128 (negsuc n) (omega (arith, ints, low))

pub read_back : (z : ℤ) → IsNear z → to_z w128 (of_z w128 z) ≡ z
read_back z near = to_z-of_z w128 z (near_fits z near)

pub same_read : (a b : ℤ) → IsNear a → IsNear b → of_z w128 a ≡ of_z w128 b → a ≡ b
same_read a b near near' same = sym (read_back a near) ∙ ap (to_z w128) same ∙ read_back b near'

pub value_near : (z : ℤ) → negsuc (2 ^ 63 - 1) ≤ℤ z → z ≤ℤ pos (2 ^ 64 - 1) → IsNear z
value_near z low high = (omega (arith, ints, low), omega (arith, ints, high))
