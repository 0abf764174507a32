-- Which texts are tokens, and where a token ends.
use Rattle.std.specs.Prelude.{◌≡◌, ℕ, ◌<◌, Bool, true, false, ◌&&◌, ◌||◌, ◌==◌, if◌then◌else◌, List, [], ◌∷◌, ◌++◌, length, Option, Some, None}
use Rattle.std.specs.List.{list_all}
use Rattle.std.specs.Option.{is_some, option_map, option_or}
use Rattle.c_tokens.specs.declared.tokens.Keyword.{Keyword}
use Rattle.c_tokens.specs.declared.tokens.TokenClass.{TokenClass}
use Rattle.c_tokens.specs.declared.tokens.TokenClass.TheVariants as class
use Rattle.c_tokens.specs.Bytes.{is_letter, is_name_byte}
use Rattle.c_tokens.specs.Tables.{keyword_of, punctuator_of}
use Rattle.c_tokens.specs.Constants.{constant_of}
use Rattle.c_tokens.specs.Quotes.{character_of, is_literal}

-- a letter or `_`, then letters, digits and `_` (C 6.4.2.1)
abbrev pub is_name : List ℕ → Bool
is_name [] = false
is_name (byte ∷ bytes) = is_letter byte && list_all is_name_byte bytes

-- a name is a keyword or a word
abbrev pub name_class : Option Keyword → TokenClass
name_class (Some keyword) = class.Keyword keyword
name_class None = class.Word

-- The class of a text that is a token: a name, an integer constant, a character constant, a string literal or a punctuator.
abbrev pub token_class : List ℕ → Option TokenClass
token_class text =
    option_or (if is_name text then Some (name_class (keyword_of text)) else None)
    (option_or (option_map class.Constant (constant_of text))
    (option_or (option_map class.Character (character_of text))
    (option_or (if is_literal text then Some class.Literal else None)
    (option_map class.Punct (punctuator_of text)))))

-- the bytes go on with a name byte or a point, so that an integer constant can't end before them
abbrev pub goes_on : List ℕ → Bool
goes_on [] = false
goes_on (byte ∷ bytes) = is_name_byte byte || byte == 46

-- The text is a token of the class where these bytes follow it.
pub record IsTokenBefore (following text : List ℕ) (class : TokenClass) : Type 0 where
  pub is_token : token_class text ≡ Some class
  -- no longer front is a token
  pub longest : (longer after : List ℕ) → text ++ following ≡ longer ++ after → length text < length longer → token_class longer ≡ None
  pub apart : is_some (constant_of text) ≡ true → goes_on following ≡ false

-- no front of the bytes is a token
abbrev pub BeginsNoToken : List ℕ → Type 0
BeginsNoToken bytes = (text following : List ℕ) (class : TokenClass) → bytes ≡ text ++ following → IsTokenBefore following text class → ⊥
