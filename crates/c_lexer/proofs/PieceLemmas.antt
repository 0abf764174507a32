-- A text cut into tokens.
use Rattle.std.proofs.Common.{◌≡◌, ℕ, ◌+◌, ◌-◌, ◌<◌, ◌≤◌, Bool, true, false, List, [], ◌∷◌, ◌++◌, length, take, drop, Option, Some, None, refl, sym, ◌∙◌, ap, subst, arith, append_assoc}
use Rattle.std.specs.Prelude.{All, ◌==◌}
use Rattle.std.proofs.lemmas.Bool.Decides.{nat_tests}
use Rattle.std.proofs.lemmas.List.{append-nil, drop_all, length-drop, length-take, take-take, drop-take}
use Rattle.std.proofs.lemmas.List.Elements.{All-nil, All-cons, All-append}
use Rattle.c_tokens.specs.declared.front.Front.{Front}
use Rattle.c_tokens.specs.declared.tokens.TokenClass.{TokenClass}
use Rattle.c_tokens.specs.Classes.{token_class}
use Rattle.c_lexer.specs.declared.faults.Wrong.{Wrong}
use Rattle.c_lexer.specs.declared.pieces.Piece.{Piece}
use Rattle.c_lexer.specs.Pieces.{CutsTo, end, more, IsCut, piece_of, piece_text, PieceStands}
use Rattle.c_lexer.specs.Starts.{StandsFirst, token, IsWrong, NothingFirst}
use Rattle.c_lexer.proofs.StartLemmas.{nothing_in_empty, same_first, wrong_nothing}

pub cuts_more : {bytes : List ℕ} {stop at n : ℕ} {class : Option TokenClass} {pieces : List Piece} → CutsTo bytes stop at pieces → StandsFirst (drop stop bytes) n class
    → CutsTo bytes (stop + n) at (pieces ++ piece_of class stop (stop + n))
cuts_more {bytes = bytes} {stop = stop} {n = n} {class = class} end stands =
    subst (λ ps. CutsTo bytes (stop + n) stop ps) (append-nil (piece_of class stop (stop + n))) (more n class stands end)
cuts_more {bytes = bytes} {stop = stop} {at = at} {n = n} {class = class} (more {pieces = pieces} length first is rest) stands =
    subst (λ ps. CutsTo bytes (stop + n) at ps) (sym (append_assoc (piece_of first at (at + length)) pieces (piece_of class stop (stop + n))))
    (more length first is (cuts_more rest stands))

pub cut_to_end : (bytes : List ℕ) (stop at : ℕ) (pieces : List Piece) → stop ≤ length bytes → length bytes ≤ stop → CutsTo bytes stop at pieces → IsCut bytes at pieces true
cut_to_end bytes stop at pieces within over cut = record {
  stop = stop;
  cut = cut;
  nothing = subst NothingFirst (sym (drop_all stop bytes over)) nothing_in_empty;
  reached = grind (arith, nat_tests);
}

pub cut_before_end : (bytes : List ℕ) (stop at : ℕ) (pieces : List Piece) (wrong : Wrong) → stop < length bytes → CutsTo bytes stop at pieces → IsWrong (drop stop bytes) wrong
    → IsCut bytes at pieces false
cut_before_end bytes stop at pieces wrong within cut is = record {
  stop = stop;
  cut = cut;
  nothing = wrong_nothing is;
  reached = grind (arith, nat_tests);
}

-- ---- one cut

pub cuts_same : {bytes : List ℕ} {stop other at : ℕ} {pieces others : List Piece} → CutsTo bytes stop at pieces → NothingFirst (drop stop bytes) → CutsTo bytes other at others
    → NothingFirst (drop other bytes) → (pieces ≡ others) × (stop ≡ other)
cuts_same end nothing end none = (refl, refl)
cuts_same end nothing (more n class is rest) none = absurd (nothing n class is)
cuts_same (more n class is rest) nothing end none = absurd (none n class is)
cuts_same {bytes = bytes} {other = other} {at = at} (more {pieces = pieces} n class is rest) nothing (more {pieces = others} m kind too later) none =
    let one = same_first is too in
    let moved = subst (λ k. CutsTo bytes other (at + k) others) (sym one.0) later in
    let same = cuts_same rest nothing moved none in
    (ap (λ ps. piece_of class at (at + n) ++ ps) same.0 ∙ ap (λ k. piece_of class at (at + k) ++ others) one.0 ∙ ap (λ c. piece_of c at (at + m) ++ others) one.1, same.1)

pub cut_same : {bytes : List ℕ} {at : ℕ} {pieces others : List Piece} {whole full : Bool} → IsCut bytes at pieces whole → IsCut bytes at others full → (pieces ≡ others) × (whole ≡ full)
cut_same {bytes = bytes} is too =
    let one = cuts_same is.cut is.nothing too.cut too.nothing in
    (one.0, is.reached ∙ ap (λ stop. stop == length bytes) one.1 ∙ sym too.reached)

-- ---- where the tokens stand

piece_stands : (bytes : List ℕ) (at n : ℕ) (class : TokenClass) → StandsFirst (drop at bytes) n (Some class) → PieceStands bytes (record { class = class; start = at; end = at + n })
piece_stands bytes at n class (token front e is) =
    let left = length-drop at bytes in
    let some = is.some in
    let within = is.within in
    let cut : at + front.length - at ≡ front.length = omega arith in
    record {
      some = omega (arith, some);
      within = omega (arith, some, within, left);
      class = ap (λ k. token_class (take k (drop at bytes))) cut ∙ is.token.is_token;
    }

pub first_stands : (bytes : List ℕ) (at n : ℕ) (class : Option TokenClass) → StandsFirst (drop at bytes) n class → All (PieceStands bytes) (piece_of class at (at + n))
first_stands bytes at n None is = All-nil (PieceStands bytes)
first_stands bytes at n (Some class) is = All-cons (PieceStands bytes) _ [] (piece_stands bytes at n class is) (All-nil (PieceStands bytes))

pub cut_stands : {bytes : List ℕ} {stop at : ℕ} {pieces : List Piece} → CutsTo bytes stop at pieces → All (PieceStands bytes) pieces
cut_stands {bytes = bytes} end = All-nil (PieceStands bytes)
cut_stands {bytes = bytes} {at = at} (more {pieces = pieces} n class is rest) =
    All-append (PieceStands bytes) (piece_of class at (at + n)) pieces (first_stands bytes at n class is) (cut_stands rest)

-- a token that stands in a front of the bytes
pub stands_in_front : (bytes : List ℕ) (front : ℕ) (piece : Piece) → PieceStands (take front bytes) piece → PieceStands bytes piece
stands_in_front bytes front piece is =
    let within = is.within in
    let some = is.some in
    let cut = length-take front bytes in
    let split : piece.start + (front - piece.start) ≡ front = omega (arith, some, within, cut) in
    let behind : drop piece.start (take front bytes) ≡ take (front - piece.start) (drop piece.start bytes) =
    ap (λ k. drop piece.start (take k bytes)) (sym split) ∙ drop-take piece.start (front - piece.start) bytes in
    let shorter : piece.end - piece.start ≤ front - piece.start = omega (arith, some, within, cut) in
    let same : piece_text (take front bytes) piece ≡ piece_text bytes piece =
    ap (take (piece.end - piece.start)) behind ∙ take-take (piece.end - piece.start) (front - piece.start) (drop piece.start bytes) shorter in
    record {
      some = some;
      within = omega (arith, within, cut);
      class = ap token_class (sym same) ∙ is.class;
    }
