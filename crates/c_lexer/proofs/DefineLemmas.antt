-- The table of defines, and the tokens of its bodies.
use Rattle.std.proofs.Common.{◌≡◌, ℕ, Bool, true, false, cond, ◌&&◌, List, [], ◌∷◌, ◌++◌, length, map, Option, Some, None, refl, sym, ◌∙◌, ap, subst}
use Rattle.std.specs.Prelude.{All, option_map, Vec}
use Rattle.std.specs.Borrow.{Bor}
use Rattle.std.specs.Global.{Global}
use Rattle.std.specs.Str.{bytes_eq}
use Rattle.std.proofs.lemmas.List.Elements.{All-cons, All-head, All-tail, All-rest, All-same}
use Rattle.indexmap.specs.IndexMap.{insert_entry}
use Rattle.std.specs.Map.{lookup}
use Rattle.c_lexer.specs.declared.pieces.Piece.{Piece}
use Rattle.c_lexer.specs.Defines.{Definition, defined_as, same_texts, BodiesStand}
use Rattle.c_lexer.specs.Pieces.{PieceStands, piece_text}

abbrev pub Entry : Type 0
Entry = Bor (List ℕ) × Vec Piece Global

abbrev pub shown : List Entry → List Definition
shown = map (λ (entry : Entry). record { name = entry.0.now; body = entry.1.items })

defined_step : (text : List ℕ) (entry : Entry) (entries : List Entry) (b : Bool) → option_map (λ v. v.items) (lookup (λ key. bytes_eq text key.now) entries) ≡ defined_as (shown entries) text
    → option_map (λ v. v.items) (cond b (Some entry.1) (lookup (λ key. bytes_eq text key.now) entries)) ≡ cond b (Some entry.1.items) (defined_as (shown entries) text)
defined_step text entry entries true rest = refl
defined_step text entry entries false rest = rest

pub defined_shown : (text : List ℕ) (entries : List Entry) → option_map (λ v. v.items) (lookup (λ key. bytes_eq text key.now) entries) ≡ defined_as (shown entries) text
defined_shown text [] = refl
defined_shown text (entry ∷ entries) = defined_step text entry entries (bytes_eq text entry.0.now) (defined_shown text entries)

abbrev eq : Bor (List ℕ) → Bor (List ℕ) → Bool
eq = λ a b. bytes_eq a.now b.now

new_step : (name : Bor (List ℕ)) (body : Vec Piece Global) (entry : Entry) (entries : List Entry) (b : Bool) → cond b (Some entry.1.items) (defined_as (shown entries) name.now) ≡ None
    → (defined_as (shown entries) name.now ≡ None → shown (insert_entry eq entries name body) ≡ shown entries ++ record { name = name.now; body = body.items } ∷ [])
    → shown (cond b ((entry.0, body) ∷ entries) (entry ∷ insert_entry eq entries name body)) ≡ shown (entry ∷ entries) ++ record { name = name.now; body = body.items } ∷ []
new_step name body entry entries true none rest = absurd (cc)
new_step name body entry entries false none rest = ap (λ ds. record { name = entry.0.now; body = entry.1.items } ∷ ds) (rest none)

pub new_last : (name : Bor (List ℕ)) (body : Vec Piece Global) (entries : List Entry) → defined_as (shown entries) name.now ≡ None
    → shown (insert_entry eq entries name body) ≡ shown entries ++ record { name = name.now; body = body.items } ∷ []
new_last name body [] none = refl
new_last name body (entry ∷ entries) none = new_step name body entry entries (bytes_eq name.now entry.0.now) none (new_last name body entries)

-- ---- bodies

body_step : (bytes text : List ℕ) (d : Definition) (ds : List Definition) (b : Bool) → All (PieceStands bytes) d.body → ((body : List Piece) → defined_as ds text ≡ Some body → All (PieceStands bytes) body)
    → (body : List Piece) → cond b (Some d.body) (defined_as ds text) ≡ Some body → All (PieceStands bytes) body
body_step bytes text d ds true here rest body e = subst (All (PieceStands bytes)) (cc) here
body_step bytes text d ds false here rest body e = rest body e

pub body_stands : (bytes text : List ℕ) (ds : List Definition) → BodiesStand bytes ds → (body : List Piece) → defined_as ds text ≡ Some body → All (PieceStands bytes) body
body_stands bytes text [] all body e = absurd (cc)
body_stands bytes text (d ∷ ds) all body e =
    body_step bytes text d ds (bytes_eq text d.name) (All-head (λ d. All (PieceStands bytes) d.body) d ds all)
    (body_stands bytes text ds (All-tail (λ d. All (PieceStands bytes) d.body) d ds all)) body e

pub first_of_all : (bytes : List ℕ) (piece : Piece) (pieces whole : List Piece) → whole ≡ piece ∷ pieces → All (PieceStands bytes) whole → PieceStands bytes piece
first_of_all bytes piece pieces whole e all = All-head (PieceStands bytes) piece pieces (All-same (PieceStands bytes) (piece ∷ pieces) whole (sym e) all)

pub rest_of_all : (bytes : List ℕ) (piece : Piece) (pieces whole : List Piece) → whole ≡ piece ∷ pieces → All (PieceStands bytes) whole → All (PieceStands bytes) pieces
rest_of_all bytes piece pieces whole e all = All-rest (PieceStands bytes) piece pieces whole e all

pub same_step : (bytes : List ℕ) (left right : List Piece) (x y : Piece) (xs ys : List Piece) → left ≡ x ∷ xs → right ≡ y ∷ ys → bytes_eq (piece_text bytes x) (piece_text bytes y) ≡ true
    → same_texts bytes xs ys ≡ same_texts bytes left right
same_step bytes left right x y xs ys e f same =
    sym (ap (λ l. same_texts bytes l right) e ∙ ap (same_texts bytes (x ∷ xs)) f ∙ ap (λ b. b && same_texts bytes xs ys) same)
