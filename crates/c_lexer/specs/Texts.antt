-- Where the text of a token stands.
use Rattle.std.specs.Prelude.{◌≡◌, ℕ, ◌-◌, ◌<◌, ◌≤◌, List, length, take, drop, Some}
use Rattle.c_tokens.specs.Classes.{token_class}
use Rattle.c_lexer.specs.declared.tokens.Token.{Token}

-- the text of a token
abbrev pub text_of : List ℕ → Token → List ℕ
text_of bytes token = take (token.end - token.start) (drop token.start bytes)

-- the file has the token's text, which is of its class
pub record StandsIn (bytes : List ℕ) (token : Token) : Type 0 where
  pub some : token.start < token.end
  pub within : token.end ≤ length bytes
  pub class : token_class (text_of bytes token) ≡ Some token.class
