-- The tokens of a file as the grammar sees them.
use Rattle.std.specs.Prelude.{◌≡◌, ℕ, Bool, true, false, if◌then◌else◌, List, [], ◌∷◌, ◌++◌, Some, slice_get}
use Rattle.std.specs.List.{list_any, position_or_len}
use Rattle.std.specs.Str.{bytes_eq}
use Rattle.c_tokens.specs.declared.tokens.TokenClass.{TokenClass}
use Rattle.c_tokens.specs.declared.tokens.TokenClass.TheVariants as T
use Rattle.c_lexer.specs.declared.tokens.Token.{Token}
use Rattle.c_lexer.specs.Texts.{text_of}
use Rattle.c_parser.specs.declared.symbol.Token.{Token as Terminal}
use Rattle.c_grammar.specs.declared.grammar.Class.{Class}
use Rattle.c_grammar.specs.Classes.{class_before}

abbrev pub is_word : TokenClass → Bool
is_word T.Word = true
is_word _ = false

-- with one name more, where it is new
abbrev pub with_name : List (List ℕ) → List ℕ → List (List ℕ)
with_name names name = if list_any (bytes_eq name) names then names else names ++ name ∷ []

abbrev pub with_token : List (List ℕ) → List ℕ → Token → List (List ℕ)
with_token names bytes t = if is_word t.class then with_name names (text_of bytes t) else names

-- these names and the other words of the tokens, each once, in the order in which they first stand
abbrev pub names_after : List (List ℕ) → List ℕ → List Token → List (List ℕ)
names_after names bytes [] = names
names_after names bytes (t ∷ ts) = names_after (with_token names bytes t) bytes ts

-- a word's number is its place among the names, and no other token's number counts
abbrev pub number_among : List (List ℕ) → List ℕ → Token → ℕ
number_among names bytes t = if is_word t.class then position_or_len (bytes_eq (text_of bytes t)) names else 0

-- the tokens with the numbers that these names give them
abbrev pub terminals_by : List (List ℕ) → List ℕ → List Token → List (Terminal Class)
terminals_by names bytes [] = []
terminals_by names bytes (t ∷ ts) = record { class = class_before (text_of bytes t) t.class ts; name = number_among names bytes t } ∷ terminals_by names bytes ts

abbrev pub terminals_of : List ℕ → List Token → List (Terminal Class)
terminals_of bytes tokens = terminals_by (names_after [] bytes tokens) bytes tokens

-- Two words of a file have the same number exactly where they have the same text.
abbrev pub AreNumbered : List ℕ → List Token → Type 0
AreNumbered bytes tokens =
    (i j : ℕ) (a b : Token) (x y : Terminal Class) → slice_get tokens i ≡ Some a → slice_get tokens j ≡ Some b
    → slice_get (terminals_of bytes tokens) i ≡ Some x → slice_get (terminals_of bytes tokens) j ≡ Some y
    → is_word a.class ≡ true → is_word b.class ≡ true
    → (x.name ≡ y.name → text_of bytes a ≡ text_of bytes b) × (text_of bytes a ≡ text_of bytes b → x.name ≡ y.name)
