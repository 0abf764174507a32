-- What holds of every token: what the crates above cite.
use Rattle.std.proofs.Common.{◌≡◌, ℕ, true, List, [], ◌∷◌, ◌++◌, Some, None}
use Rattle.c_tokens.specs.declared.tokens.TokenClass.{TokenClass}
use Rattle.c_tokens.specs.Bytes.{is_space, is_in_line}
use Rattle.c_tokens.specs.Classes.{token_class, IsTokenBefore}
use Rattle.c_tokens.proofs.ClassLemmas as by_class
use Rattle.c_tokens.proofs.FrontLemmas as by_front

pub empty_class : token_class [] ≡ None
empty_class = by_class.empty_class

pub space_class : (byte : ℕ) (bytes : List ℕ) → is_space byte ≡ true → token_class (byte ∷ bytes) ≡ None
space_class byte bytes space = by_class.space_class byte bytes space

-- no line ends within a token
pub token_in_line : (text : List ℕ) (c : TokenClass) → token_class text ≡ Some c → is_in_line text ≡ true
token_in_line text c is = by_class.token_in_line text c is

-- where two tokens begin a text, they are one
pub only_token : (first second after rest : List ℕ) (c d : TokenClass) → first ++ after ≡ second ++ rest → IsTokenBefore after first c → IsTokenBefore rest second d → (first ≡ second) × (c ≡ d)
only_token first second after rest c d e is too = by_front.only_token first second after rest c d e is too
