-- The token at which reading stops.
use Rattle.std.proofs.Common.{◌≡◌, ℕ, zero, suc, ◌+◌, ◌<◌, Bool, true, false, Some, List, [], ◌∷◌, ◌++◌, length, refl, sym, ◌∙◌, ap, subst, arith}
use Rattle.std.specs.Prelude.{if◌then◌else◌, All, slice_get}
use Rattle.std.proofs.lemmas.List.{length-append}
use Rattle.c_lexer.specs.declared.tokens.Place.{Place}
use Rattle.c_lexer.specs.declared.tokens.Token.{Token}
use Rattle.c_parser.specs.File.{IsUnexpected, IsTooDeep, IsUnexpectedEnd}
use Rattle.c_grammar.specs.declared.fault.Cause.{Cause}
use Rattle.c_grammar.specs.declared.fault.Cause.TheVariants as cause
use Rattle.c_grammar.specs.declared.fault.Fault.{Fault}
use Rattle.c_grammar.specs.declared.fault.Fault.TheVariants as fault
use Rattle.c_grammar.specs.Classes.{is_left_out}
use Rattle.c_grammar.specs.Grammar.{rules}
use Rattle.c_grammar.specs.Terminals.{names_after, terminals_by, terminals_of}
use Rattle.c_grammar.specs.Refusals.{Says, IsOf, IsRefusedFor, IsRefusal, unexpected_cause}

-- what all items of a list have, each has
pub all_at : {X : Type 0} (P : X → Type 0) (items : List X) (at : ℕ) (x : X) → All P items → slice_get items at ≡ Some x → P x
all_at P [] at x all e = cc
all_at P (y ∷ items) zero x all e = let same : y ≡ x = cc in subst P same (all 0 y (omega arith))
all_at P (y ∷ items) (suc at) x all e = all_at P items at x (λ k d h. all (suc k) d (omega (arith, h))) e

as_many_by : (names : List (List ℕ)) (bytes : List ℕ) (tokens : List Token) → length (terminals_by names bytes tokens) ≡ length tokens
as_many_by names bytes [] = refl
as_many_by names bytes (t ∷ ts) = ap suc (as_many_by names bytes ts)

pub as_many : (bytes : List ℕ) (tokens : List Token) → length (terminals_of bytes tokens) ≡ length tokens
as_many bytes tokens = as_many_by (names_after [] bytes tokens) bytes tokens

inside : {X : Type 0} (seen rest whole : List X) (x : X) (at : ℕ) → seen ++ x ∷ rest ≡ whole → length seen ≡ at → at < length whole
inside seen rest whole x at e n =
    let many : length (seen ++ x ∷ rest) ≡ length whole = ap length e in
    let parts : length (seen ++ x ∷ rest) ≡ length seen + suc (length rest) = length-append seen (x ∷ rest) in
    omega (arith, many, parts, n)

pub unexpected_inside : (bytes : List ℕ) (tokens : List Token) (at : ℕ) → IsUnexpected rules (terminals_of bytes tokens) at → at < length tokens
unexpected_inside bytes tokens at is =
    let low : at < length (terminals_of bytes tokens) = inside is.seen is.rest (terminals_of bytes tokens) is.next at is.whole is.place in
    let same : length (terminals_of bytes tokens) ≡ length tokens = as_many bytes tokens in
    omega (arith, low, same)

pub deep_inside : (bytes : List ℕ) (tokens : List Token) (at : ℕ) → IsTooDeep rules (terminals_of bytes tokens) at → at < length tokens
deep_inside bytes tokens at is =
    let low : at < length (terminals_of bytes tokens) = inside is.seen is.rest (terminals_of bytes tokens) is.next at is.whole is.place in
    let same : length (terminals_of bytes tokens) ≡ length tokens = as_many bytes tokens in
    omega (arith, low, same)

-- what is said is right, if it is right of the place, the cause and the text
pub refusal_of : (bytes : List ℕ) (tokens : List Token) (end place : Place) (why : Cause) (text : List ℕ) (f : Fault) → Says place why text f → IsRefusedFor bytes tokens end why place text → IsRefusal bytes tokens end f
refusal_of bytes tokens end place why text fault.Memory says right = tt
refusal_of bytes tokens end place why text (fault.Refused p c t) says right =
    let at_place : IsRefusedFor bytes tokens end why p text = subst (λ (x : Place). IsRefusedFor bytes tokens end why x text) (sym says.0) right in
    let for_cause : IsRefusedFor bytes tokens end c p text = subst (λ (x : Cause). IsRefusedFor bytes tokens end x p text) (sym says.1) at_place in
    subst (λ (x : List ℕ). IsRefusedFor bytes tokens end c p x) (sym says.2) for_cause

-- a token that can't stand is left out by the profile, or isn't
pub unexpected_for : (bytes : List ℕ) (tokens : List Token) (end : Place) (at : ℕ) (token : Token) (place : Place) (text : List ℕ) →
    IsOf bytes tokens token at place text → IsUnexpected rules (terminals_of bytes tokens) at → IsRefusedFor bytes tokens end (unexpected_cause token.class) place text
unexpected_for bytes tokens end at token place text is first = cases (is_left_out token.class) refl
  where
    cases : (b : Bool) → is_left_out token.class ≡ b → IsRefusedFor bytes tokens end (unexpected_cause token.class) place text
    cases true e =
        subst (λ (c : Cause). IsRefusedFor bytes tokens end c place text) (sym (ap (λ (b : Bool). if b then cause.NotInProfile else cause.Unexpected) e))
        (record { at = at; token = token; of = is; first = first; profile = e })
    cases false e =
        subst (λ (c : Cause). IsRefusedFor bytes tokens end c place text) (sym (ap (λ (b : Bool). if b then cause.NotInProfile else cause.Unexpected) e))
        (record { at = at; token = token; of = is; first = first; profile = e })

pub deep_for : (bytes : List ℕ) (tokens : List Token) (end : Place) (at : ℕ) (token : Token) (place : Place) (text : List ℕ) →
    IsOf bytes tokens token at place text → IsTooDeep rules (terminals_of bytes tokens) at → IsRefusedFor bytes tokens end cause.TooDeep place text
deep_for bytes tokens end at token place text is first = record { at = at; token = token; of = is; first = first }

pub end_for : (bytes : List ℕ) (tokens : List Token) (end : Place) (at : ℕ) → IsUnexpectedEnd rules (terminals_of bytes tokens) at → IsRefusedFor bytes tokens end cause.UnexpectedEnd end []
end_for bytes tokens end at is =
    let same : at ≡ length tokens = sym is.place ∙ as_many bytes tokens in
    record { last = subst (IsUnexpectedEnd rules (terminals_of bytes tokens)) same is; its_place = refl; no_text = refl }
