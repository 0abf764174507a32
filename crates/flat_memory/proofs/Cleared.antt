-- Cells that are cleared one after another.
use Rattle.std.proofs.Common.{◌≡◌, ℕ, zero, suc, ◌+◌, ◌<◌, ◌≤◌, List, [], ◌∷◌, ◌++◌, length, map, take, drop, set, get_or, refl, ap, sym, ◌∙◌, subst, arith, append_assoc, length-append}
use Rattle.std.proofs.lemmas.List.{append-nil, take_all, drop_all, drop-drop, take-append-drop, take_more_set, drop-set-lt, drop_more, length-map}
use Rattle.rvt_num.specs.declared.values.Value.{Value}
use Rattle.c_meaning.specs.Stores.{cleared}
use Rattle.flat_memory.specs.Cells.{with_cleared}

cleared_one : (cells : List Value) (at next : ℕ) (x : Value) → at < length cells → x ≡ get_or cells at x →
    with_cleared (at + 1) next (set cells at (cleared x)) ≡ with_cleared at (suc next) cells
cleared_one cells at next x h e =
    let y : Value = cleared x in
    let s : List Value = set cells at y in
    let a : take (at + 1) s ≡ take at cells ++ y ∷ [] = take_more_set cells at y h in
    let b : drop (at + 1) s ≡ drop (at + 1) cells = drop-set-lt (at + 1) cells at y (omega arith) in
    let q : at + 1 + next ≡ at + suc next = omega arith in
    let d : drop (at + 1 + next) s ≡ drop (at + suc next) cells = drop-set-lt (at + 1 + next) cells at y (omega arith) ∙ ap (λ n. drop n cells) q in
    let f : drop at cells ≡ x ∷ drop (at + 1) cells = drop_more cells at x h ∙ ap (λ z. z ∷ drop (at + 1) cells) (sym e) in
    ap (λ t. t ++ (map cleared (take next (drop (at + 1) s)) ++ drop (at + 1 + next) s)) a
    ∙ ap (λ t. (take at cells ++ y ∷ []) ++ (map cleared (take next t) ++ drop (at + 1 + next) s)) b
    ∙ ap (λ t. (take at cells ++ y ∷ []) ++ (map cleared (take next (drop (at + 1) cells)) ++ t)) d
    ∙ append_assoc (take at cells) (y ∷ []) (map cleared (take next (drop (at + 1) cells)) ++ drop (at + suc next) cells)
    ∙ ap (λ t. take at cells ++ (map cleared (take (suc next) t) ++ drop (at + suc next) cells)) (sym f)

-- a cell is cleared, and the others are to be
pub cleared_step : (cells : List Value) (at left next : ℕ) (x y : Value) → at < length cells → x ≡ get_or cells at x → y ≡ cleared x → suc next ≡ left →
    with_cleared (at + 1) next (set cells at y) ≡ with_cleared at left cells
cleared_step cells at left next x y h e is_cleared one_more =
    subst (λ n. with_cleared (at + 1) next (set cells at y) ≡ with_cleared at n cells) one_more
    (subst (λ z. with_cleared (at + 1) next (set cells at z) ≡ with_cleared at (suc next) cells) (sym is_cleared) (cleared_one cells at next x h e))

taken_back : (n : ℕ) (xs : List Value) → length (map cleared (take n xs)) + length (drop n xs) ≡ length xs
taken_back n xs =
    ap (λ k. k + length (drop n xs)) (length-map (take n xs) cleared)
    ∙ sym (length-append (take n xs) (drop n xs))
    ∙ ap (λ t. length t) (take-append-drop n xs)

-- as many cells as before
pub cleared_count : (first n : ℕ) (cells : List Value) → length (with_cleared first n cells) ≡ length cells
cleared_count first n cells =
    length-append (take first cells) (map cleared (take n (drop first cells)) ++ drop (first + n) cells)
    ∙ ap (λ k. length (take first cells) + k)
    (length-append (map cleared (take n (drop first cells))) (drop (first + n) cells)
    ∙ ap (λ t. length (map cleared (take n (drop first cells))) + length t) (sym (drop-drop n first cells))
    ∙ taken_back n (drop first cells))
    ∙ sym (length-append (take first cells) (drop first cells))
    ∙ ap (λ t. length t) (take-append-drop first cells)

abbrev none : List Value
none = []

take_none : (n : ℕ) → take n none ≡ []
take_none zero = refl
take_none (suc n) = refl

pub cleared_past : (at left : ℕ) (cells : List Value) → length cells ≤ at → with_cleared at left cells ≡ cells
cleared_past at left cells h =
    ap (λ t. t ++ (map cleared (take left (drop at cells)) ++ drop (at + left) cells)) (take_all at cells h)
    ∙ ap (λ t. cells ++ (map cleared (take left t) ++ drop (at + left) cells)) (drop_all at cells h)
    ∙ ap (λ t. cells ++ (map cleared t ++ drop (at + left) cells)) (take_none left)
    ∙ ap (λ t. cells ++ t) (drop_all (at + left) cells (omega arith))
    ∙ append-nil cells

pub cleared_nothing : (at left : ℕ) (cells : List Value) → left ≡ 0 → with_cleared at left cells ≡ cells
cleared_nothing at left cells h =
    let q : at + 0 ≡ at = omega arith in
    ap (λ n. with_cleared at n cells) h ∙ ap (λ n. take at cells ++ drop n cells) q ∙ take-append-drop at cells
