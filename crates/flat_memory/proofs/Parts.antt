-- A part of some cells.
use Rattle.std.proofs.Common.{◌≡◌, ℕ, zero, suc, ◌+◌, ◌-◌, ◌<◌, ◌≤◌, List, [], ◌∷◌, ◌++◌, length, map, take, drop, min, set, nat_lt, Bool, true, false, if◌then◌else◌, refl, ap, sym, ◌∙◌, arith, append_assoc, length-append}
use Rattle.std.proofs.lemmas.List.{drop-drop, take-append-drop, length-take-le, length-take, length-drop, length-map, length-set, set_past, set-append_left, set-append_right}
use Rattle.std.proofs.lemmas.Bool.{ltb-true, ltb-false}
use Rattle.rvt_num.specs.declared.values.Value.{Value}
use Rattle.c_meaning.specs.Stores.{cleared, overwritten}
use Rattle.flat_memory.specs.Cells.{with_cleared}

-- ---- a part of a store

taken_rest : (n : ℕ) (xs : List Value) → take n xs ++ drop (length (take n xs)) xs ≡ xs
taken_rest zero xs = refl
taken_rest (suc n) [] = refl
taken_rest (suc n) (x ∷ xs) = ap (λ ys. x ∷ ys) (taken_rest n xs)

behind_taken : (n : ℕ) (xs : List Value) → drop (length (take n xs)) xs ≡ drop n xs
behind_taken zero xs = refl
behind_taken (suc n) [] = refl
behind_taken (suc n) (x ∷ xs) = behind_taken n xs

-- a store is what is before a part, the part, and what is behind it
whole : (first n : ℕ) (store : List Value) → overwritten store first (take n (drop first store)) ≡ store
whole first n store =
    let part : List Value = take n (drop first store) in
    append_assoc (take first store) part (drop (first + length part) store)
    ∙ ap (λ t. take first store ++ (part ++ t)) (sym (drop-drop (length part) first store))
    ∙ ap (λ t. take first store ++ t) (taken_rest n (drop first store))
    ∙ take-append-drop first store

-- as many other cells in its place
changed_part : (first n : ℕ) (store cells : List Value) → length cells ≡ length (take n (drop first store)) →
    overwritten store first cells ≡ take first store ++ cells ++ drop (first + length (take n (drop first store))) store
changed_part first n store cells same = ap (λ k. take first store ++ cells ++ drop (first + k) store) same

module _ (first n : ℕ) (store : List Value) (cell : ℕ) (v : Value) where
  abbrev part : List Value
  part = take n (drop first store)

  abbrev behind : List Value
  behind = drop (first + length part) store

  part_length : length part ≡ min n (length store - first)
  part_length = length-take n (drop first store) ∙ ap (λ k. min n k) (length-drop first store)

  same_length : length (set part cell v) ≡ length part
  same_length = length-set part cell v

  set_inside : cell < length part → overwritten store first (set part cell v) ≡ set store (first + cell) v
  set_inside h =
      let len : length part ≡ min n (length store - first) = part_length in
      let front : length (take first store) ≡ first = length-take-le first store (omega arith) in
      let both : length (take first store ++ part) ≡ length (take first store) + length part = length-append (take first store) part in
      let inside : first + cell < length (take first store ++ part) = omega arith in
      let back : first + cell - first ≡ cell = omega arith in
      changed_part first n store (set part cell v) same_length
      ∙ ap (λ t. t ++ behind) (ap (λ k. take first store ++ set part k v) (sym back) ∙ sym (set-append_right (take first store) part first (first + cell) v front (omega arith)))
      ∙ sym (set-append_left (take first store ++ part) behind (first + cell) v inside)
      ∙ ap (λ t. set t (first + cell) v) (whole first n store)

  set_outside : length part ≤ cell → overwritten store first (set part cell v) ≡ store
  set_outside h = ap (overwritten store first) (set_past part cell v h) ∙ whole first n store

  set_by : (within : Bool) → nat_lt cell n ≡ within → (there : Bool) → nat_lt cell (length part) ≡ there →
      overwritten store first (set part cell v) ≡ (if within then set store (first + cell) v else store)
  set_by true w true t = set_inside (ltb-true cell (length part) t)
  set_by true w false t =
      let len : length part ≡ min n (length store - first) = part_length in
      let past : length part ≤ cell = ltb-false cell (length part) t in
      let inside : cell < n = ltb-true cell n w in
      set_outside past ∙ sym (set_past store (first + cell) v (omega arith))
  set_by false w there t =
      let len : length part ≡ min n (length store - first) = part_length in
      let past : n ≤ cell = ltb-false cell n w in
      set_outside (omega arith)

  pub set_cell : overwritten store first (set part cell v) ≡ (if nat_lt cell n then set store (first + cell) v else store)
  set_cell = set_by (nat_lt cell n) refl (nat_lt cell (length part)) refl

pub cleared_part : (first n : ℕ) (store : List Value) → overwritten store first (map cleared (take n (drop first store))) ≡ with_cleared first n store
cleared_part first n store =
    let part : List Value = take n (drop first store) in
    changed_part first n store (map cleared part) (length-map part cleared)
    ∙ append_assoc (take first store) (map cleared part) (drop (first + length part) store)
    ∙ ap (λ t. take first store ++ (map cleared part ++ t)) (sym (drop-drop (length part) first store) ∙ behind_taken n (drop first store) ∙ drop-drop n first store)
