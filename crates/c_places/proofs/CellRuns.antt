-- Cells that are cleared one after another.
use Rattle.std.proofs.Common.{◌≡◌, ℕ, zero, suc, ◌+◌, ◌-◌, ◌<◌, ◌≤◌, min, List, [], ◌∷◌, ◌++◌, length, map, take, drop, set, get_or, refl, ap, sym, ◌∙◌, subst, arith, append_assoc, length-append}
use Rattle.std.proofs.lemmas.List.{append-nil, take_all, drop_all, take_min, drop_min, drop-drop, take-append-drop, take_more_set, drop-set-lt, drop_more, length_push}
use Rattle.rvt_num.specs.declared.values.Value.{Value}
use Rattle.c_meaning.specs.Stores.{cleared, overwritten}
use Rattle.c_places.specs.Ranges.{with_cleared}

cleared_one : (cells : List Value) (at next : ℕ) (x : Value) → at < length cells → x ≡ get_or cells at x →
    with_cleared (at + 1) next (set cells at (cleared x)) ≡ with_cleared at (suc next) cells
cleared_one cells at next x h e =
    let y : Value = cleared x in
    let s : List Value = set cells at y in
    let a : take (at + 1) s ≡ take at cells ++ y ∷ [] = take_more_set cells at y h in
    let b : drop (at + 1) s ≡ drop (at + 1) cells = drop-set-lt (at + 1) cells at y (omega arith) in
    let q : at + 1 + next ≡ at + suc next = omega arith in
    let d : drop (at + 1 + next) s ≡ drop (at + suc next) cells = drop-set-lt (at + 1 + next) cells at y (omega arith) ∙ ap (λ n. drop n cells) q in
    let f : drop at cells ≡ x ∷ drop (at + 1) cells = drop_more cells at x h ∙ ap (λ z. z ∷ drop (at + 1) cells) (sym e) in
    ap (λ t. t ++ (map cleared (take next (drop (at + 1) s)) ++ drop (at + 1 + next) s)) a
    ∙ ap (λ t. (take at cells ++ y ∷ []) ++ (map cleared (take next t) ++ drop (at + 1 + next) s)) b
    ∙ ap (λ t. (take at cells ++ y ∷ []) ++ (map cleared (take next (drop (at + 1) cells)) ++ t)) d
    ∙ append_assoc (take at cells) (y ∷ []) (map cleared (take next (drop (at + 1) cells)) ++ drop (at + suc next) cells)
    ∙ ap (λ t. take at cells ++ (map cleared (take (suc next) t) ++ drop (at + suc next) cells)) (sym f)

-- a cell is cleared, and the others are to be
pub cleared_step : (cells : List Value) (at left next : ℕ) (x y : Value) → at < length cells → x ≡ get_or cells at x → y ≡ cleared x → suc next ≡ left →
    with_cleared (at + 1) next (set cells at y) ≡ with_cleared at left cells
cleared_step cells at left next x y h e is_cleared one_more =
    subst (λ n. with_cleared (at + 1) next (set cells at y) ≡ with_cleared at n cells) one_more
    (subst (λ z. with_cleared (at + 1) next (set cells at z) ≡ with_cleared at (suc next) cells) (sym is_cleared) (cleared_one cells at next x h e))
