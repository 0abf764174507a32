-- A text cut at a mark.
use Rattle.std.proofs.Common.{◌≡◌, ℕ, ◌+◌, ◌<◌, ◌≤◌, Bool, true, false, List, [], ◌∷◌, ◌++◌, length, take, drop, get_or, sym, ◌∙◌, ap, arith}
use Rattle.std.specs.Prelude.{◌==◌, if◌then◌else◌}
use Rattle.std.proofs.lemmas.List.{take_all, take_more, at_drop_all, at_drop_more}
use Rattle.version_map.specs.Texts.{parts_from, parts}

same : (a b : ℕ) → a ≡ b → (a == b) ≡ true
same a b is = grind arith

other : (a b : ℕ) → (a ≡ b → ⊥) → (a == b) ≡ false
other a b apart = grind arith

one_more : (mark : ℕ) (text : List ℕ) (at : ℕ) (b : Bool) → at < length text → (get_or text at 0 == mark) ≡ b
    → parts_from mark (take at text) (drop at text)
    ≡ (if b then take at text ∷ parts_from mark [] (drop (at + 1) text) else parts_from mark (take at text ++ get_or text at 0 ∷ []) (drop (at + 1) text))
one_more mark text at b within is =
    at_drop_more (parts_from mark (take at text)) text at 0 within
    ∙ ap (λ (b : Bool). if b then take at text ∷ parts_from mark [] (drop (at + 1) text) else parts_from mark (take at text ++ get_or text at 0 ∷ []) (drop (at + 1) text)) is

-- at a mark the part ends
pub at_mark : (mark : ℕ) (text : List ℕ) (at : ℕ) → at < length text → get_or text at 0 ≡ mark
    → parts_from mark (take at text) (drop at text) ≡ take at text ∷ parts mark (drop (at + 1) text)
at_mark mark text at within is = one_more mark text at true within (same (get_or text at 0) mark is)

-- another byte is one more of the part
pub past_other : (mark : ℕ) (text : List ℕ) (at : ℕ) → at < length text → (get_or text at 0 ≡ mark → ⊥)
    → parts_from mark (take (at + 1) text) (drop (at + 1) text) ≡ parts_from mark (take at text) (drop at text)
past_other mark text at within apart =
    let longer : take (at + 1) text ≡ take at text ++ get_or text at 0 ∷ [] = take_more text at 0 within in
    ap (λ part. parts_from mark part (drop (at + 1) text)) longer ∙ sym (one_more mark text at false within (other (get_or text at 0) mark apart))

-- the text is the last part
pub at_end : (mark : ℕ) (text : List ℕ) (at : ℕ) → length text ≤ at → parts_from mark (take at text) (drop at text) ≡ text ∷ []
at_end mark text at over = at_drop_all (parts_from mark (take at text)) text at over ∙ ap (λ part. part ∷ []) (take_all at text over)
