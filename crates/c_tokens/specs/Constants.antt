-- Integer constants (C 6.4.4.1).
use Rattle.std.specs.Prelude.{ℕ, ◌-◌, ◌^◌, pos, Bool, ◌||◌, nat_lt, if◌then◌else◌, List, [], ◌∷◌, take, drop, codes, Option, Some, None}
use Rattle.std.specs.List.{prefix_len}
use Rattle.std.specs.Option.{option_map}
use Rattle.std.specs.Str.{bytes_eq}
use Rattle.rvt_num.specs.declared.kinds.Kind.{Kind}
use Rattle.rvt_num.specs.declared.kinds.Kind.TheVariants.{I32, U32, I64, U64}
use Rattle.rvt_num.specs.Kinds.{width, is_signed}
use Rattle.rvt_num.specs.Number.{Number}
use Rattle.c_tokens.specs.declared.digits.Base.{Base}
use Rattle.c_tokens.specs.declared.digits.Base.TheVariants.{Octal, Decimal, Hexadecimal}
use Rattle.c_tokens.specs.declared.constants.Suffix.{Suffix}
use Rattle.c_tokens.specs.declared.constants.Suffix.TheVariants.{Plain, Unsigned, Long, UnsignedLong}
use Rattle.c_tokens.specs.Tables.{suffix_of}
use Rattle.c_tokens.specs.Digits.{is_digit_of, digits_value}

-- hexadecimal after `0x` or `0X`, octal after another `0`, else decimal
abbrev pub base_of : List ℕ → Base
base_of text = if bytes_eq (take 2 text) (codes "0x") || bytes_eq (take 2 text) (codes "0X") then Hexadecimal else (if bytes_eq (take 1 text) (codes "0") then Octal else Decimal)

-- the text behind `0x`
abbrev pub after_prefix : Base → List ℕ → List ℕ
after_prefix Octal text = text
after_prefix Decimal text = text
after_prefix Hexadecimal text = drop 2 text

-- the kinds that a constant may have, in the order in which they are tried
abbrev pub kinds_for : Base → Suffix → List Kind
kinds_for Decimal Plain = I32 ∷ I64 ∷ []
kinds_for Decimal Long = I64 ∷ []
kinds_for _ Plain = I32 ∷ U32 ∷ I64 ∷ U64 ∷ []
kinds_for _ Long = I64 ∷ U64 ∷ []
kinds_for _ Unsigned = U32 ∷ U64 ∷ []
kinds_for _ UnsignedLong = U64 ∷ []

-- the number is one of the kind
abbrev pub holds : Kind → ℕ → Bool
holds kind value = nat_lt value (2 ^ (if is_signed kind then width kind - 1 else width kind))

abbrev pub first_holding : List Kind → ℕ → Option Kind
first_holding [] value = None
first_holding (kind ∷ kinds) value = if holds kind value then Some kind else first_holding kinds value

-- the number of one digit or more with a suffix, of the first kind that holds it
abbrev pub number_of : Base → List ℕ → Option Suffix → Option Number
number_of base [] suffix = None
number_of base (digit ∷ digits) None = None
number_of base (digit ∷ digits) (Some suffix) =
    option_map (λ kind. record { kind = kind; value = pos (digits_value base (digit ∷ digits)) }) (first_holding (kinds_for base suffix) (digits_value base (digit ∷ digits)))

-- the number of digits of the base, and then a suffix
abbrev pub written_in : Base → List ℕ → Option Number
written_in base text = number_of base (take (prefix_len (is_digit_of base) text) text) (suffix_of (drop (prefix_len (is_digit_of base) text) text))

-- the number of an integer constant
unfoldable pub constant_of : List ℕ → Option Number
constant_of text = written_in (base_of text) (after_prefix (base_of text) text)
