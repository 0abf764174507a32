-- What stands first in a text.
use Rattle.std.proofs.Common.{◌≡◌, ◌≢◌, ℕ, suc, ◌+◌, ◌-◌, ◌<◌, ◌≤◌, Bool, true, false, ◌&&◌, cond, List, [], ◌∷◌, length, take, drop, Option, Some, None, refl, sym, ◌∙◌, ap, subst, arith}
use Rattle.std.specs.Prelude.{◌==◌}
use Rattle.std.proofs.lemmas.Bool.{eqb-true}
use Rattle.std.proofs.lemmas.List.{take-append-drop, length-take-le}
use Rattle.std.proofs.lemmas.List.Sums.{prefix_len-le-length}
use Rattle.c_tokens.specs.declared.front.Front.{Front}
use Rattle.c_tokens.specs.declared.front.NoToken.{NoToken}
use Rattle.c_tokens.specs.declared.tokens.TokenClass.{TokenClass}
use Rattle.c_tokens.specs.Bytes.{is_space}
use Rattle.c_tokens.specs.Classes.{BeginsNoToken}
use Rattle.c_tokens.specs.Fronts.{IsFront, why_none}
use Rattle.c_tokens.proofs.TokenLaws.{only_token}
use Rattle.c_lexer.specs.declared.faults.Wrong.{Wrong}
use Rattle.c_lexer.specs.declared.starts.Start.{Start}
use Rattle.c_lexer.specs.declared.starts.Start.TheVariants as start
use Rattle.c_lexer.specs.Starts.{begins_byte, start_of, after_slash, line_length, comment_length, StandsFirst, space, line_comment, block_comment, token, IsWrong, open_comment, bad_token, NothingFirst}

pub begins_some : (wanted : ℕ) (text : List ℕ) → begins_byte wanted text ≡ true → 1 ≤ length text
begins_some wanted [] begins = absurd (cc)
begins_some wanted (byte ∷ bytes) begins = omega arith

pub not_empty : (text : List ℕ) → 0 < length text → text ≢ []
not_empty [] some e = absurd (let wrong : ⊥ = omega (arith, some) in wrong)
not_empty (byte ∷ bytes) some e = absurd (cc)

-- a comment begins with two bytes
slash_some : (bytes : List ℕ) (kind : Start) → (kind ≡ start.Token → ⊥) → after_slash bytes ≡ kind → 1 ≤ length bytes
slash_some [] kind other e = absurd (other (sym e))
slash_some (byte ∷ bytes) kind other e = omega arith

line_some : (byte : ℕ) (bytes : List ℕ) (space slash : Bool) → cond space start.Space (cond slash (after_slash bytes) start.Token) ≡ start.LineComment → 1 ≤ length bytes
line_some byte bytes true slash e = absurd (cc)
line_some byte bytes false true e = slash_some bytes start.LineComment (λ h. absurd (cc)) e
line_some byte bytes false false e = absurd (cc)

block_some : (byte : ℕ) (bytes : List ℕ) (space slash : Bool) → cond space start.Space (cond slash (after_slash bytes) start.Token) ≡ start.BlockComment → 1 ≤ length bytes
block_some byte bytes true slash e = absurd (cc)
block_some byte bytes false true e = slash_some bytes start.BlockComment (λ h. absurd (cc)) e
block_some byte bytes false false e = absurd (cc)

pub block_two : (text : List ℕ) → start_of text ≡ start.BlockComment → 2 ≤ length text
block_two [] e = absurd (cc)
block_two (byte ∷ bytes) e = let more = block_some byte bytes (is_space byte) (byte == 47) e in omega (arith, more)

-- a comment that begins with `//` has a byte before its line's end
line_positive : (byte : ℕ) (bytes : List ℕ) (is_sp slash : Bool) → (byte == 47) ≡ slash → cond is_sp start.Space (cond slash (after_slash bytes) start.Token) ≡ start.LineComment
    → 0 < line_length (byte ∷ bytes)
line_positive byte bytes true slash is e = absurd (cc)
line_positive byte bytes false true is e =
    let positive : 0 < line_length (47 ∷ bytes) = omega arith in
    subst (λ b. 0 < line_length (b ∷ bytes)) (sym (eqb-true byte 47 is)) positive
line_positive byte bytes false false is e = absurd (cc)

pub line_comment_some : (text : List ℕ) → start_of text ≡ start.LineComment → 0 < line_length text
line_comment_some [] e = absurd (cc)
line_comment_some (byte ∷ bytes) e = line_positive byte bytes (is_space byte) (byte == 47) refl e

-- ---- one thing stands first

pub nothing_in_empty : NothingFirst []
nothing_in_empty n class (space e) = absurd (cc)
nothing_in_empty n class (line_comment e) = absurd (cc)
nothing_in_empty n class (block_comment e closed) = absurd (cc)
nothing_in_empty n class (token front e is) = let some = is.some in let within = is.within in absurd (let wrong : ⊥ = omega (arith, some, within) in wrong)

front_same : (text : List ℕ) (f g : Front) → IsFront text f → IsFront text g → (f.length ≡ g.length) × (f.class ≡ g.class)
front_same text f g is too =
    let one = only_token (take f.length text) (take g.length text) (drop f.length text) (drop g.length text) f.class g.class
    (take-append-drop f.length text ∙ sym (take-append-drop g.length text)) is.token too.token in
    (sym (length-take-le f.length text is.within) ∙ ap length one.0 ∙ length-take-le g.length text too.within, one.1)

pub same_first : {text : List ℕ} {n m : ℕ} {c d : Option TokenClass} → StandsFirst text n c → StandsFirst text m d → (n ≡ m) × (c ≡ d)
same_first (space e) (space f) = (refl, refl)
same_first (space e) (line_comment f) = absurd (cc)
same_first (space e) (block_comment f closed) = absurd (cc)
same_first (space e) (token front f is) = absurd (cc)
same_first (line_comment e) (space f) = absurd (cc)
same_first (line_comment e) (line_comment f) = (refl, refl)
same_first (line_comment e) (block_comment f closed) = absurd (cc)
same_first (line_comment e) (token front f is) = absurd (cc)
same_first (block_comment e closed) (space f) = absurd (cc)
same_first (block_comment e closed) (line_comment f) = absurd (cc)
same_first (block_comment e closed) (block_comment f too) = (cc, refl)
same_first (block_comment e closed) (token front f is) = absurd (cc)
same_first (token front e is) (space f) = absurd (cc)
same_first (token front e is) (line_comment f) = absurd (cc)
same_first (token front e is) (block_comment f closed) = absurd (cc)
same_first {text = text} (token front e is) (token other f too) = let one = front_same text front other is too in (one.0, ap Some one.1)

pub wrong_nothing : {text : List ℕ} {wrong : Wrong} → IsWrong text wrong → NothingFirst text
wrong_nothing (open_comment e unclosed) n class (space f) = absurd (cc)
wrong_nothing (open_comment e unclosed) n class (line_comment f) = absurd (cc)
wrong_nothing (open_comment e unclosed) n class (block_comment f closed) = absurd (cc)
wrong_nothing (open_comment e unclosed) n class (token front f is) = absurd (cc)
wrong_nothing (bad_token some e none) n class (space f) = absurd (cc)
wrong_nothing (bad_token some e none) n class (line_comment f) = absurd (cc)
wrong_nothing (bad_token some e none) n class (block_comment f closed) = absurd (cc)
wrong_nothing {text = text} (bad_token some e none) n class (token front f is) =
    none (take front.length text) (drop front.length text) front.class (sym (take-append-drop front.length text)) is.token
