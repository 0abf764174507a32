-- What stands at the front of a text.
use Rattle.std.specs.Prelude.{ℕ, ◌+◌, ◌<◌, ◌≤◌, false, Bool, ◌==◌, List, [], ◌∷◌, length, take, drop, Option, Some, None, if◌then◌else◌}
use Rattle.std.specs.List.{prefix_len}
use Rattle.std.specs.Str.{bytes_eq}
use Rattle.c_tokens.specs.declared.front.Front.{Front}
use Rattle.c_tokens.specs.declared.front.NoToken.{NoToken}
use Rattle.c_tokens.specs.declared.front.NoToken.TheVariants.{BadByte, BadNumber, BadCharacter}
use Rattle.c_tokens.specs.declared.tokens.Punctuator.{Punctuator}
use Rattle.c_tokens.specs.declared.tokens.TokenClass.TheVariants.{Punct}
use Rattle.c_tokens.specs.Bytes.{is_digit, is_text_byte}
use Rattle.c_tokens.specs.Classes.{IsTokenBefore}
use Rattle.c_tokens.specs.Quotes.{to_quote}

-- the text begins with this token
pub record IsFront (text : List ℕ) (front : Front) : Type 0 where
  pub some : 0 < front.length
  pub within : front.length ≤ length text
  pub token : IsTokenBefore (drop front.length text) (take front.length text) front.class

-- How far behind a `"` the bad byte stands: the first one that can't stand in a literal, or the `"` itself where no other closes it.
abbrev pub bad_in_literal : Option ℕ → List ℕ → ℕ
bad_in_literal None bytes = 0
bad_in_literal (Some n) bytes = prefix_len is_text_byte (take n bytes) + 1

-- why no token begins a text: the first byte tells it
abbrev pub why_none : List ℕ → NoToken
why_none [] = BadByte 0
why_none (byte ∷ bytes) =
    if is_digit byte then BadNumber
    else (if byte == 39 then BadCharacter else (if byte == 34 then BadByte (bad_in_literal (to_quote 34 false bytes) bytes) else BadByte 0))

abbrev pub begins_with : List ℕ → List ℕ → Bool
begins_with front text = bytes_eq front (take (length front) text)

-- the first punctuator of the table with which the text begins
abbrev pub first_front : List (List ℕ × Punctuator) → List ℕ → Option Front
first_front [] text = None
first_front (entry ∷ entries) text =
    if begins_with entry.0 text then Some (record { class = Punct entry.1; length = length entry.0 }) else first_front entries text
