-- Numbers as lists of bits, and what a cell at each place computes on them.
use Rattle.std.proofs.Common.{◌≡◌, ℕ, suc, ◌+◌, ◌*◌, ◌<◌, ◌^◌, ◌%◌, Bool, true, false, not, List, [], ◌∷◌, length, refl, sym, ap, ◌∙◌, arith, nat_lt}
use Rattle.std.proofs.Math.Nat.{pow-suc, mul_comm, mul_assoc, mod-eq_of_lt, add-mul-mod_self_right}
use Rattle.std.proofs.lemmas.Bool.Decides.{nat_tests}
use Rattle.bit_words.specs.declared.cells.Cell.{Cell}
use Rattle.bit_words.specs.declared.cells.Cell.TheVariants.{Sum, Less}
use Rattle.bit_words.specs.Words.{bit_number, number_of_bits}
use Rattle.bit_words.proofs.Computing.{differ, majority}
use Rattle.bit_words.proofs.RippleCarry.{ripple_bits, ripple_carry}

pub below_power : (xs : List Bool) → number_of_bits xs < 2 ^ length xs
below_power [] = omega arith
below_power (false ∷ xs) = let rest = below_power xs in omega (arith, pow-suc 2 (length xs))
below_power (true ∷ xs) = let rest = below_power xs in omega (arith, pow-suc 2 (length xs))

pub ripple_length : (cell : Cell) (c : Bool) (xs ys : List Bool) → length xs ≡ length ys → length (ripple_bits cell c xs ys) ≡ length xs
ripple_length cell c [] [] e = refl
ripple_length cell c [] (y ∷ ys) e = absurd (omega arith)
ripple_length cell c (x ∷ xs) [] e = absurd (omega arith)
ripple_length cell c (x ∷ xs) (y ∷ ys) e = ap suc (ripple_length cell _ xs ys (omega arith))

-- ---- sums
full_sum_is : (x y c : Bool) → bit_number (differ (differ x y) c) + 2 * bit_number (majority x y c) ≡ bit_number x + bit_number y + bit_number c
full_sum_is false false false = refl
full_sum_is false false true = refl
full_sum_is false true false = refl
full_sum_is false true true = refl
full_sum_is true false false = refl
full_sum_is true false true = refl
full_sum_is true true false = refl
full_sum_is true true true = refl

pub sum_is : (c : Bool) (xs ys : List Bool) → length xs ≡ length ys
    → number_of_bits (ripple_bits Sum c xs ys) + 2 ^ length xs * bit_number (ripple_carry Sum c xs ys) ≡ number_of_bits xs + number_of_bits ys + bit_number c
sum_is c [] [] e = omega arith
sum_is c [] (y ∷ ys) e = absurd (omega arith)
sum_is c (x ∷ xs) [] e = absurd (omega arith)
sum_is c (x ∷ xs) (y ∷ ys) e =
    let k = bit_number (ripple_carry Sum (majority x y c) xs ys) in
    let rest = sum_is (majority x y c) xs ys (omega arith) in
    let power : 2 ^ length (x ∷ xs) * k ≡ 2 * (2 ^ length xs * k) = ap (λ p. p * k) (pow-suc 2 (length xs) ∙ mul_comm (2 ^ length xs) 2) ∙ mul_assoc 2 (2 ^ length xs) k in
    omega (arith, full_sum_is x y c)

-- the bits of a sum are the sum modulo 2 to the width
pub sum_modulo : (c : Bool) (xs ys : List Bool) → length xs ≡ length ys → number_of_bits (ripple_bits Sum c xs ys) ≡ (number_of_bits xs + number_of_bits ys + bit_number c) % 2 ^ length xs
sum_modulo c xs ys e =
    let s = ripple_bits Sum c xs ys in
    let k = bit_number (ripple_carry Sum c xs ys) in
    let small : number_of_bits s < 2 ^ length xs = rw (← ripple_length Sum c xs ys e) (below_power s) in
    sym (ap (λ n. n % 2 ^ length xs) (sym (sum_is c xs ys e) ∙ ap (λ n. number_of_bits s + n) (mul_comm (2 ^ length xs) k)) ∙ add-mul-mod_self_right (number_of_bits s) k (2 ^ length xs) ∙ mod-eq_of_lt small)

-- ---- comparisons
less_step : (x y c : Bool) (m n : ℕ) → nat_lt m (n + bit_number (majority (not x) y c)) ≡ nat_lt (bit_number x + 2 * m) (bit_number y + 2 * n + bit_number c)
less_step false false false m n = grind (arith, nat_tests)
less_step false false true m n = grind (arith, nat_tests)
less_step false true false m n = grind (arith, nat_tests)
less_step false true true m n = grind (arith, nat_tests)
less_step true false false m n = grind (arith, nat_tests)
less_step true false true m n = grind (arith, nat_tests)
less_step true true false m n = grind (arith, nat_tests)
less_step true true true m n = grind (arith, nat_tests)

pub less_is : (c : Bool) (xs ys : List Bool) → length xs ≡ length ys → ripple_carry Less c xs ys ≡ nat_lt (number_of_bits xs) (number_of_bits ys + bit_number c)
less_is false [] [] e = refl
less_is true [] [] e = refl
less_is c [] (y ∷ ys) e = absurd (omega arith)
less_is c (x ∷ xs) [] e = absurd (omega arith)
less_is c (x ∷ xs) (y ∷ ys) e = less_is (majority (not x) y c) xs ys (omega arith) ∙ less_step x y c (number_of_bits xs) (number_of_bits ys)
