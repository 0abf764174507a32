-- The order of the numbers of a kind, by their bits.
use Rattle.std.proofs.Common.{◌≡◌, ℕ, zero, suc, ◌+◌, ◌-◌, ◌*◌, ◌<◌, ◌^◌, pos, negsuc, Bool, true, false, not, List, [], ◌∷◌, ◌++◌, length, take, get_or, sym, ap, ◌∙◌, arith, nat_lt, subst, length-take}
use Rattle.std.specs.Prelude.{int_lt}
use Rattle.std.proofs.Math.Nat.{pow-suc, mul_comm, mul_assoc}
use Rattle.std.proofs.lemmas.Bool.Decides.{nat_tests}
use Rattle.rvt_num.specs.Wrapping.{signed_reading}
use Rattle.rvt_num.proofs.Readings.{signed_reading_low, signed_reading_high}
use Rattle.bit_words.specs.Words.{bit_number, number_of_bits}
use Rattle.bit_words.proofs.Arithmetic.{below_power}

pub double_power : (n k : ℕ) → 2 ^ suc n * k ≡ 2 * (2 ^ n * k)
double_power n k = ap (λ p. p * k) (pow-suc 2 n ∙ mul_comm (2 ^ n) 2) ∙ mul_assoc 2 (2 ^ n) k

-- a number by its highest bit and the others
pub top_split : (n : ℕ) (bs : List Bool) → length bs ≡ suc n → number_of_bits bs ≡ number_of_bits (take n bs) + 2 ^ n * bit_number (get_or bs n false)
top_split n [] e = absurd (omega arith)
top_split zero (b ∷ []) e = omega arith
top_split zero (b ∷ c ∷ bs) e = absurd (omega arith)
top_split (suc n) (b ∷ bs) e = omega (arith, top_split n bs (omega arith), double_power n (bit_number (get_or bs n false)))

number_push : (bs : List Bool) (b : Bool) → number_of_bits (bs ++ b ∷ []) ≡ number_of_bits bs + 2 ^ length bs * bit_number b
number_push [] b = omega arith
number_push (c ∷ bs) b = omega (arith, number_push bs b, double_power (length bs) (bit_number b))

module _ (n : ℕ) where
  half : 2 ^ (suc n - 1) ≡ 2 ^ n
  half = ap (λ k. 2 ^ k) (omega arith)

  low : (x : ℕ) → x < 2 ^ n → signed_reading (suc n) (x + 2 ^ n * 0) ≡ pos (x + 2 ^ n * 0)
  low x h = let e = half in signed_reading_low (suc n) (x + 2 ^ n * 0) (omega arith)

  high : (x : ℕ) → signed_reading (suc n) (x + 2 ^ n * 1) ≡ negsuc (2 ^ suc n - 1 - (x + 2 ^ n * 1))
  high x = let e = half in signed_reading_high (suc n) (x + 2 ^ n * 1) (omega arith)

-- with the highest bits inverted, patterns are in the order of the signed numbers
pub signed_less : (n a b : ℕ) (s t : Bool) → a < 2 ^ n → b < 2 ^ n
    → nat_lt (a + 2 ^ n * bit_number (not s)) (b + 2 ^ n * bit_number (not t)) ≡ int_lt (signed_reading (suc n) (a + 2 ^ n * bit_number s)) (signed_reading (suc n) (b + 2 ^ n * bit_number t))
signed_less n a b false false p q =
    let step : nat_lt (a + 2 ^ n * 1) (b + 2 ^ n * 1) ≡ nat_lt (a + 2 ^ n * 0) (b + 2 ^ n * 0) = grind (arith, nat_tests) in
    step ∙ sym (λ i. int_lt (low n a p i) (low n b q i))
signed_less n a b false true p q =
    let step : nat_lt (a + 2 ^ n * 1) (b + 2 ^ n * 0) ≡ false = grind (arith, nat_tests) in
    step ∙ sym (λ i. int_lt (low n a p i) (high n b i))
signed_less n a b true false p q =
    let step : nat_lt (a + 2 ^ n * 0) (b + 2 ^ n * 1) ≡ true = grind (arith, nat_tests) in
    step ∙ sym (λ i. int_lt (high n a i) (low n b q i))
signed_less n a b true true p q =
    let power = pow-suc 2 n in
    let step : nat_lt (a + 2 ^ n * 0) (b + 2 ^ n * 0) ≡ nat_lt (2 ^ suc n - 1 - (b + 2 ^ n * 1)) (2 ^ suc n - 1 - (a + 2 ^ n * 1)) = grind (arith, nat_tests) in
    step ∙ sym (λ i. int_lt (high n a i) (high n b i))

abbrev pub offset_values : ℕ → List Bool → List Bool
offset_values n bs = take n bs ++ not (get_or bs n false) ∷ []

pub front_length : (n : ℕ) (bs : List Bool) → length bs ≡ suc n → length (take n bs) ≡ n
front_length n bs e = simp length-take (omega arith)

offset_number : (n : ℕ) (bs : List Bool) → length bs ≡ suc n → number_of_bits (offset_values n bs) ≡ number_of_bits (take n bs) + 2 ^ n * bit_number (not (get_or bs n false))
offset_number n bs e = number_push (take n bs) _ ∙ ap (λ k. number_of_bits (take n bs) + 2 ^ k * bit_number (not (get_or bs n false))) (front_length n bs e)

pub order_signed : (n : ℕ) (xs ys : List Bool) → length xs ≡ suc n → length ys ≡ suc n
    → nat_lt (number_of_bits (offset_values n xs)) (number_of_bits (offset_values n ys)) ≡ int_lt (signed_reading (suc n) (number_of_bits xs)) (signed_reading (suc n) (number_of_bits ys))
order_signed n xs ys e f =
    let small : (bs : List Bool) → length bs ≡ suc n → number_of_bits (take n bs) < 2 ^ n = λ bs g. subst (λ k. number_of_bits (take n bs) < 2 ^ k) (front_length n bs g) (below_power (take n bs)) in
    (λ i. nat_lt (offset_number n xs e i) (offset_number n ys f i))
    ∙ signed_less n _ _ (get_or xs n false) (get_or ys n false) (small xs e) (small ys f)
    ∙ sym (λ i. int_lt (signed_reading (suc n) (top_split n xs e i)) (signed_reading (suc n) (top_split n ys f i)))
