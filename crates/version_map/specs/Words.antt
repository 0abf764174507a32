-- The words of a line of a map.
use Rattle.std.specs.Prelude.{ℕ, ◌+◌, ◌-◌, ◌*◌, Bool, true, false, ◌&&◌, ◌==◌, nat_le, if◌then◌else◌, List, [], ◌∷◌, codes, Option, Some, None}
use Rattle.rvt_num.specs.declared.kinds.Kind.{Kind}
use Rattle.rvt_num.specs.declared.kinds.Kind.TheVariants as k
use Rattle.c_tokens.specs.declared.tokens.TokenClass.{TokenClass}
use Rattle.c_tokens.specs.declared.tokens.TokenClass.TheVariants.{Word}
use Rattle.c_tokens.specs.Bytes.{is_digit}
use Rattle.c_tokens.specs.Classes.{token_class}
use Rattle.c_tokens.specs.Tables.{written_so}

abbrev pub is_word : Option TokenClass → Bool
is_word (Some Word) = true
is_word _ = false

-- a name of C: a letter or `_`, then letters, digits and `_`, and no keyword (C 6.4.2)
unfoldable pub is_name : List ℕ → Bool
is_name [] = false
is_name (byte ∷ bytes) = is_word (token_class (byte ∷ bytes))

abbrev pub kinds : List (List ℕ × Kind)
kinds =
    (codes "bool", k.Bool) ∷ (codes "i8", k.I8) ∷ (codes "u8", k.U8) ∷ (codes "i16", k.I16) ∷ (codes "u16", k.U16) ∷
    (codes "i32", k.I32) ∷ (codes "u32", k.U32) ∷ (codes "i64", k.I64) ∷ (codes "u64", k.U64) ∷ []

-- the kind that has this name
unfoldable pub kind_of : List ℕ → Option Kind
kind_of = written_so kinds

-- the number from 1 to 4096 that these digits make, where the digits before make this number
abbrev pub count_from : ℕ → List ℕ → Option ℕ
count_from value [] = if nat_le 1 value && nat_le value 4096 then Some value else None
count_from value (byte ∷ bytes) = if is_digit byte then count_from (10 * value + (byte - 48)) bytes else None

-- a number from 1 to 4096 without leading zeros
abbrev pub count_of : List ℕ → Option ℕ
count_of [] = None
count_of (byte ∷ bytes) = if byte == 48 then None else count_from 0 (byte ∷ bytes)
