-- A piece of which a writer has taken the first bytes.
use Rattle.std.proofs.Common.{◌≡◌, ℕ, Option, Some, None, List, [], ◌∷◌, ◌++◌, ◌-◌, length, take, drop, refl, sym, ◌∙◌, ap, append-nil, append_assoc, length-drop, subst, arith}
use Rattle.std.specs.Io.KnownBytes.{Appends, Keeps}
use Rattle.std.proofs.lemmas.List.{take-append-drop}
use Rattle.std.proofs.Math.Seq.{take-append_seam, take-length}
use Rattle.rvt_edge.specs.Sink.{Grows, GrowsByPart}

-- the writer has taken all of the piece but the rest
abbrev pub Takes : Option (List ℕ) → Option (List ℕ) → List ℕ → List ℕ → Type 0
Takes before now piece rest = (done : List ℕ) × (piece ≡ done ++ rest) × Grows before now done

pub none_taken : (before : Option (List ℕ)) (piece : List ℕ) → Takes before before piece piece
none_taken None piece = ([], refl, tt)
none_taken (Some xs) piece = ([], refl, ap Some (sym (append-nil xs)))

-- one known state after another
grows_on : (before now after : Option (List ℕ)) (done more : List ℕ) → Grows before now done → Appends now after more → Grows before after (done ++ more)
grows_on None now after done more g a = tt
grows_on (Some xs) None after done more g a = cc
grows_on (Some xs) (Some ys) None done more g a = absurd a
grows_on (Some xs) (Some ys) (Some zs) done more g a =
    let P : Option (List ℕ) → Type 0 = λ o. Appends o (Some zs) more in
    let whole : zs ≡ (xs ++ done) ++ more = subst P g a in
    ap Some (whole ∙ append_assoc xs done more)

-- a write takes the first bytes of the rest
pub some_taken : (before now after : Option (List ℕ)) (piece rest : List ℕ) (count : ℕ) → Takes before now piece rest → Appends now after (take count rest) → Takes before after piece (take (length rest - count) (drop count rest))
some_taken before now after piece rest count t a =
    let whole : take (length rest - count) (drop count rest) ≡ drop count rest = ap (λ (n : ℕ). take n (drop count rest)) (sym (length-drop count rest)) ∙ take-length (drop count rest) in
    let split : piece ≡ (t.0 ++ take count rest) ++ drop count rest = t.1 ∙ ap (λ r. t.0 ++ r) (sym (take-append-drop count rest)) ∙ sym (append_assoc t.0 (take count rest) (drop count rest)) in
    (t.0 ++ take count rest, split ∙ ap (λ r. (t.0 ++ take count rest) ++ r) (sym whole), grows_on before now after t.0 (take count rest) t.2 a)

-- a writer that has kept what it had
grows_kept : (before now after : Option (List ℕ)) (done : List ℕ) → Grows before now done → Keeps now after → Grows before after done
grows_kept None now after done g k = tt
grows_kept (Some xs) None after done g k = cc
grows_kept (Some xs) (Some ys) None done g k = absurd k
grows_kept (Some xs) (Some ys) (Some zs) done g k = ap Some k ∙ g

pub kept_taken : (before now after : Option (List ℕ)) (piece rest : List ℕ) → Takes before now piece rest → Keeps now after → Takes before after piece rest
kept_taken before now after piece rest t k = (t.0, t.1, grows_kept before now after t.0 t.2 k)

pub part_taken : (before now : Option (List ℕ)) (piece rest : List ℕ) → Takes before now piece rest → GrowsByPart before now piece
part_taken before now piece rest t =
    let first : take (length t.0) piece ≡ t.0 = ap (take (length t.0)) t.1 ∙ take-append_seam t.0 rest in
    (length t.0, subst (λ bs. Grows before now bs) (sym first) t.2)

pub all_taken : (before now : Option (List ℕ)) (piece rest : List ℕ) → Takes before now piece rest → length rest ≡ 0 → Grows before now piece
all_taken before now piece [] t e = subst (λ bs. Grows before now bs) (sym (t.1 ∙ append-nil t.0)) t.2
all_taken before now piece (x ∷ rest) t e = absurd (omega (arith, e))
