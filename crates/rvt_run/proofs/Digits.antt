-- What a number is written as.
use Rattle.std.proofs.Common.{◌≡◌, ℕ, zero, suc, ◌+◌, ◌<◌, ◌≤◌, ◌^◌, ◌/◌, ◌%◌, Bool, true, false, if◌then◌else◌, List, [], ◌∷◌, sym, ◌∙◌, ap, subst, arith}
use Rattle.std.specs.Prelude.{◌==◌}
use Rattle.std.specs.Fmt.{decimal, digits, digits_onto, digit_glyph}
use Rattle.std.specs.Str.Parse.{digits_value}
use Rattle.std.proofs.lemmas.Fmt.{decimal_is_IsNumeral}
use Rattle.std.proofs.lemmas.Bool.{lt-ltb}
use Rattle.std.proofs.lemmas.Nat.{mod_below}

abbrev pub IsDigit : ℕ → Type 0
IsDigit byte = (48 ≤ byte) × (byte ≤ 57)

abbrev pub AreDigits : List ℕ → Type 0
AreDigits [] = Unit {0}
AreDigits (byte ∷ bytes) = IsDigit byte × AreDigits bytes

-- the glyph of a digit
glyph_is : (d : ℕ) → d < 10 → IsDigit (digit_glyph false d)
glyph_is d low = subst (λ (b : Bool). IsDigit (if b then 48 + d else 87 + d)) (sym (lt-ltb d 10 low)) (let first : 48 ≤ 48 + d = omega arith in let last : 48 + d ≤ 57 = omega (arith, low) in (first, last))

onto_are : (k n : ℕ) (bytes : List ℕ) → AreDigits bytes → AreDigits (digits_onto k 10 false n bytes)
onto_are zero n bytes are = are
onto_are (suc k) n bytes are = cases (n / 10 == 0) (onto_are k (n / 10) (digit_glyph false (n % 10) ∷ bytes) (glyph_is (n % 10) (mod_below n 10 (omega arith)), are))
  where
    cases : (b : Bool) → AreDigits (digits_onto k 10 false (n / 10) (digit_glyph false (n % 10) ∷ bytes)) → AreDigits (if b then digit_glyph false (n % 10) ∷ bytes else digits_onto k 10 false (n / 10) (digit_glyph false (n % 10) ∷ bytes))
    cases true more = (glyph_is (n % 10) (mod_below n 10 (omega arith)), are)
    cases false more = more

-- a number is written in digits
pub decimal_are : (n : ℕ) → AreDigits (decimal n)
unfolding digits
decimal_are n = onto_are 64 n [] tt

-- two numbers are written differently
pub decimal_same : (m n : ℕ) → m < 2 ^ 64 → n < 2 ^ 64 → decimal m ≡ decimal n → m ≡ n
decimal_same m n low low' e = sym (decimal_is_IsNumeral m low).1 ∙ ap (λ (l : List ℕ). digits_value 10 l) e ∙ (decimal_is_IsNumeral n low').1
