-- The digits of a base, and what number they make (C 6.4.4.1).
use Rattle.std.specs.Prelude.{ℕ, ◌+◌, ◌-◌, ◌*◌, ◌^◌, Bool, nat_lt, if◌then◌else◌, List, fold, Option, Some, None}
use Rattle.c_tokens.specs.declared.digits.Base.{Base}
use Rattle.c_tokens.specs.declared.digits.Base.TheVariants.{Octal, Decimal, Hexadecimal}
use Rattle.c_tokens.specs.Bytes.{between, is_digit}

abbrev pub radix : Base → ℕ
radix Octal = 8
radix Decimal = 10
radix Hexadecimal = 16

-- `0` to `9`, `a` to `f` or `A` to `F`; 16 for a byte that is no digit
abbrev pub digit_value : ℕ → ℕ
digit_value byte = if is_digit byte then byte - 48 else (if between 97 102 byte then byte - 97 + 10 else (if between 65 70 byte then byte - 65 + 10 else 16))

abbrev pub is_digit_of : Base → ℕ → Bool
is_digit_of base byte = nat_lt (digit_value byte) (radix base)

-- one more digit behind a number
abbrev pub add_digit : Base → ℕ → ℕ → ℕ
add_digit base value digit = value * radix base + digit_value digit

abbrev pub digits_value : Base → List ℕ → ℕ
digits_value base = fold (add_digit base) 0

abbrev pub value_in_64_bits : Base → List ℕ → Option ℕ
value_in_64_bits base digits = if nat_lt (digits_value base digits) (2 ^ 64) then Some (digits_value base digits) else None
