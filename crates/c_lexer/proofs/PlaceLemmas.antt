-- Places after more bytes.
use Rattle.std.proofs.Common.{◌≡◌, ℕ, ◌+◌, ◌≤◌, ◌-◌, Bool, true, false, not, cond, ◌&&◌, take, drop, List, [], ◌∷◌, ◌++◌, length, refl, sym, ap, ◌∙◌, arith, append_assoc}
use Rattle.std.specs.Prelude.{count_by, reverse, fold, ◌||◌}
use Rattle.std.specs.List.{prefix_len}
use Rattle.std.proofs.lemmas.List.{append-nil, reverse-append, length-reverse, length-take}
use Rattle.std.proofs.lemmas.List.Sums.{fold-append, sum_by_push, count_by-le-length, prefix_len-le-length}
use Rattle.c_lexer.specs.declared.tokens.Place.{Place}
use Rattle.std.proofs.Math.Seq.{take-add}
use Rattle.c_tokens.specs.Bytes.{is_line_end, is_space}
use Rattle.c_lexer.specs.declared.spots.Spot.{Spot}
use Rattle.c_lexer.specs.Places.{next_place, place_after, ends_blank, after_byte, spot_after}

lines_more : (seen : List ℕ) (byte : ℕ) (b : Bool) → is_line_end byte ≡ b → count_by is_line_end (seen ++ byte ∷ []) ≡ count_by is_line_end seen + cond b 1 0
lines_more seen byte b e = sum_by_push (λ x. cond (is_line_end x) 1 0) seen byte ∙ ap (λ t. count_by is_line_end seen + cond t 1 0) e

column_more : (seen : List ℕ) (byte : ℕ) (b : Bool) → is_line_end byte ≡ b
    → prefix_len (λ x. not (is_line_end x)) (reverse (seen ++ byte ∷ [])) ≡ cond b 0 (1 + prefix_len (λ x. not (is_line_end x)) (reverse seen))
column_more seen byte true e = ap (prefix_len (λ x. not (is_line_end x))) (reverse-append seen (byte ∷ [])) ∙ ap (λ t. cond (not t) (1 + prefix_len (λ x. not (is_line_end x)) (reverse seen)) 0) e
column_more seen byte false e = ap (prefix_len (λ x. not (is_line_end x))) (reverse-append seen (byte ∷ [])) ∙ ap (λ t. cond (not t) (1 + prefix_len (λ x. not (is_line_end x)) (reverse seen)) 0) e

pub same_place : (l m c d : ℕ) → l ≡ m → c ≡ d → ◌≡◌ {A = Place} (record { line = l; column = c }) (record { line = m; column = d })
same_place l m c d e f = cc

place_step : (seen : List ℕ) (byte : ℕ) (b : Bool) → is_line_end byte ≡ b
    → place_after (seen ++ byte ∷ []) ≡ cond b (record { line = (place_after seen).line + 1; column = 1 }) (record { line = (place_after seen).line; column = (place_after seen).column + 1 })
place_step seen byte true e =
    let lines = lines_more seen byte true e in
    let columns = column_more seen byte true e in
    same_place _ _ _ _ (omega (arith, lines)) (omega (arith, columns))
place_step seen byte false e =
    let lines = lines_more seen byte false e in
    let columns = column_more seen byte false e in
    same_place _ _ _ _ (omega (arith, lines)) (omega (arith, columns))

pub place_more : (seen : List ℕ) (byte : ℕ) → place_after (seen ++ byte ∷ []) ≡ next_place (place_after seen) byte
place_more seen byte = place_step seen byte (is_line_end byte) refl

blank_more : (seen : List ℕ) (byte : ℕ) → ends_blank (seen ++ byte ∷ []) ≡ (is_line_end byte || (ends_blank seen && is_space byte))
blank_more seen byte = fold-append (λ blank byte. is_line_end byte || (blank && is_space byte)) true seen (byte ∷ [])

same_spot : (p q : Place) (a b : Bool) → p ≡ q → a ≡ b → ◌≡◌ {A = Spot} (record { place = p; blank = a }) (record { place = q; blank = b })
same_spot p q a b e f = cc

spot_more : (seen : List ℕ) (byte : ℕ) → after_byte (spot_after seen) byte ≡ spot_after (seen ++ byte ∷ [])
spot_more seen byte = same_spot _ _ _ _ (sym (place_more seen byte)) (sym (blank_more seen byte))

pub spot_along : (seen text : List ℕ) → fold after_byte (spot_after seen) text ≡ spot_after (seen ++ text)
spot_along seen [] = ap spot_after (sym (append-nil seen))
spot_along seen (byte ∷ bytes) =
    ap (λ spot. fold after_byte spot bytes) (spot_more seen byte) ∙ spot_along (seen ++ byte ∷ []) bytes ∙ ap spot_after (append_assoc seen (byte ∷ []) bytes)

pub spot_further : (bytes : List ℕ) (at count : ℕ) → fold after_byte (spot_after (take at bytes)) (take count (drop at bytes)) ≡ spot_after (take (at + count) bytes)
spot_further bytes at count = spot_along (take at bytes) (take count (drop at bytes)) ∙ ap spot_after (sym (take-add at count bytes))

-- the spot at one place of the bytes, and further on
pub spot_between : (bytes : List ℕ) (at next : ℕ) → at ≤ next → fold after_byte (spot_after (take at bytes)) (take (next - at) (drop at bytes)) ≡ spot_after (take next bytes)
spot_between bytes at next within =
    let split : at + (next - at) ≡ next = omega (arith, within) in
    spot_further bytes at (next - at) ∙ ap (λ k. spot_after (take k bytes)) split

pub place_bounds : (seen : List ℕ) → ((place_after seen).line ≤ length seen + 1) × ((place_after seen).column ≤ length seen + 1)
place_bounds seen =
    let lines = count_by-le-length is_line_end seen in
    let columns = prefix_len-le-length (λ x. not (is_line_end x)) (reverse seen) in
    let same = length-reverse seen in
    (omega (arith, lines), omega (arith, columns, same))

-- the numbers of a place are no larger than the bytes before it allow
pub spot_bounds : (bytes : List ℕ) (at : ℕ) → ((place_after (take at bytes)).line ≤ at + 1) × ((place_after (take at bytes)).column ≤ at + 1)
spot_bounds bytes at =
    let cut = length-take at bytes in
    let bounds = place_bounds (take at bytes) in
    (omega (arith, bounds.0, cut), omega (arith, bounds.1, cut))

-- so a text that follows leaves room
pub room_behind : (bytes text : List ℕ) (at : ℕ) (spot : Spot) → spot ≡ spot_after (take at bytes) → at ≤ length bytes → length text ≤ length bytes - at
    → (spot.place.line + length text ≤ length bytes + 1) × (spot.place.column + length text ≤ length bytes + 1)
room_behind bytes text at spot is within fits =
    let bounds = spot_bounds bytes at in
    let lines = ap (λ s. s.place.line) is in
    let columns = ap (λ s. s.place.column) is in
    (omega (arith, bounds.0, lines, within, fits), omega (arith, bounds.1, columns, within, fits))
