-- Character constants (C 6.4.4.4) and string literals (C 6.4.5).
use Rattle.std.specs.Prelude.{ℕ, suc, ◌-◌, ◌<◌, pos, Bool, true, false, not, ◌&&◌, ◌||◌, ◌==◌, nat_lt, nat_le, if◌then◌else◌, List, [], ◌∷◌, length, take, Option, Some, None}
use Rattle.std.specs.List.{list_all}
use Rattle.std.specs.Option.{option_map}
use Rattle.rvt_num.specs.declared.kinds.Kind.TheVariants.{I8, I32}
use Rattle.rvt_num.specs.Number.{Number}
use Rattle.rvt_num.specs.Wrapping.{wrap, wrapped}
use Rattle.c_tokens.specs.declared.digits.Base.{Base}
use Rattle.c_tokens.specs.declared.digits.Base.TheVariants.{Octal, Hexadecimal}
use Rattle.c_tokens.specs.Bytes.{is_line_end, is_text_byte}
use Rattle.c_tokens.specs.Digits.{is_digit_of, digits_value}
use Rattle.c_tokens.specs.Tables.{escape_of}

-- How many bytes there are up to the next such quote that no backslash escapes, with it, where it stands on the same line.
-- A byte is escaped if the one before it is a backslash that isn't escaped.
abbrev pub to_quote : ℕ → Bool → List ℕ → Option ℕ
to_quote quote is_escaped [] = None
to_quote quote is_escaped (byte ∷ bytes) =
    if is_line_end byte then None
    else (if byte == quote && not is_escaped then Some 1 else option_map suc (to_quote quote (byte == 92 && not is_escaped) bytes))

abbrev pub is_whole : Option ℕ → List ℕ → Bool
is_whole None bytes = false
is_whole (Some n) bytes = n == length bytes

-- the bytes end with the quote that closes them
abbrev pub closes : ℕ → List ℕ → Bool
closes quote bytes = is_whole (to_quote quote false bytes) bytes

unfoldable pub is_literal : List ℕ → Bool
is_literal [] = false
is_literal (byte ∷ bytes) = byte == 34 && closes 34 bytes && list_all is_text_byte bytes

-- the number of one digit or more that is at most 255
abbrev pub byte_value : Base → List ℕ → Option ℕ
byte_value base digits =
    if nat_lt 0 (length digits) && list_all (is_digit_of base) digits && nat_le (digits_value base digits) 255 then Some (digits_value base digits) else None

-- what the bytes behind a backslash stand for: `x` and hexadecimal digits, up to three octal digits, or one of the table
abbrev pub escaped_value : List ℕ → Option ℕ
escaped_value [] = None
escaped_value (byte ∷ bytes) =
    if byte == 120 then byte_value Hexadecimal bytes
    else (if is_digit_of Octal byte then (if nat_le (length bytes) 2 then byte_value Octal (byte ∷ bytes) else None) else escape_of (byte ∷ bytes))

-- a character that may stand for itself: any but `'`, backslash and the line's end
abbrev pub is_plain : ℕ → Bool
is_plain byte = is_text_byte byte && not (byte == 39 || byte == 92 || is_line_end byte)

-- the byte that stands between two quotes
abbrev pub one_character : List ℕ → Option ℕ
one_character [] = None
one_character (byte ∷ bytes) = if byte == 92 then escaped_value bytes else (if is_plain byte && length bytes == 0 then Some byte else None)

-- the `int` that equals a signed `char` of these bits
abbrev pub char_number : ℕ → Number
char_number value = wrapped I32 (wrap I8 (pos value))

-- the number of a character constant
unfoldable pub character_of : List ℕ → Option Number
character_of [] = None
character_of (byte ∷ bytes) = if byte == 39 && closes 39 bytes then option_map char_number (one_character (take (length bytes - 1) bytes)) else None
