-- The number that digits make.
use Rattle.std.proofs.Common.{◌≡◌, ℕ, ◌+◌, ◌<◌, ◌≤◌, ◌^◌, Bool, true, false, cond, List, [], ◌∷◌, length, get_or, drop, Option, Some, None, sym, ap, ◌∙◌, arith}
use Rattle.std.specs.Prelude.{fold}
use Rattle.std.proofs.lemmas.Bool.{le-ltb}
use Rattle.std.proofs.lemmas.List.{drop_more}
use Rattle.c_tokens.specs.declared.digits.Base.{Base}
use Rattle.c_tokens.specs.declared.digits.Base.TheVariants.{Octal, Decimal, Hexadecimal}
use Rattle.c_tokens.specs.Digits.{add_digit, digits_value, value_in_64_bits}

digit_grows : (base : Base) (value digit : ℕ) → value ≤ add_digit base value digit
digit_grows Octal value digit = omega arith
digit_grows Decimal value digit = omega arith
digit_grows Hexadecimal value digit = omega arith

grows : (base : Base) (digits : List ℕ) (value : ℕ) → value ≤ fold (add_digit base) value digits
grows base [] value = omega arith
grows base (digit ∷ digits) value =
    let one = digit_grows base value digit in
    let rest = grows base digits (add_digit base value digit) in
    omega (arith, one, rest)

pub too_large : (base : Base) (text : List ℕ) (i value next : ℕ) → i < length text → next ≡ add_digit base value (get_or text i 0) → 2 ^ 64 ≤ next
    → fold (add_digit base) value (drop i text) ≡ digits_value base text → ◌≡◌ {A = Option ℕ} None (value_in_64_bits base text)
too_large base text i value next within e large so_far =
    let rest = grows base (drop (i + 1) text) (add_digit base value (get_or text i 0)) in
    let whole = sym so_far ∙ ap (fold (add_digit base) value) (drop_more text i 0 within) in
    sym (ap (λ b. cond b (Some (digits_value base text)) None) (le-ltb (digits_value base text) (2 ^ 64) (omega (arith, e, large, rest, whole))))
