-- Cells that are copied one after another.
use Rattle.std.proofs.Common.{◌≡◌, ℕ, ◌+◌, ◌-◌, ◌<◌, List, [], ◌∷◌, ◌++◌, length, take, drop, set, get_or, ap, sym, ◌∙◌, arith, append_assoc}
use Rattle.std.proofs.lemmas.List.{set-append_right, length-take-le, drop_more, take_more}

pub copied_more : {A : Type 0} (new old now : List A) (i : ℕ) (x : A) → length old ≡ length new → i < length new → x ≡ get_or new i x →
    now ≡ take i new ++ drop i old → set now i x ≡ take (i + 1) new ++ drop (i + 1) old
copied_more new old now i x same h e inv =
    let front : length (take i new) ≡ i = length-take-le i new (omega arith) in
    let none : i - i ≡ 0 = omega arith in
    let inside : i < length old = omega arith in
    ap (λ xs. set xs i x) inv
    ∙ set-append_right (take i new) (drop i old) i i x front (omega arith)
    ∙ ap (λ k. take i new ++ set (drop i old) k x) none
    ∙ ap (λ xs. take i new ++ set xs 0 x) (drop_more old i x inside)
    ∙ sym (append_assoc (take i new) (x ∷ []) (drop (i + 1) old))
    ∙ ap (λ xs. xs ++ drop (i + 1) old) (ap (λ y. take i new ++ y ∷ []) e ∙ sym (take_more new i x h))
