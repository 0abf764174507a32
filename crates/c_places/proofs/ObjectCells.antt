-- The cells of an object, by where it lies.
use Rattle.std.proofs.Common.{◌≡◌, ℕ, zero, suc, ◌+◌, ◌-◌, ◌<◌, ◌≤◌, List, [], ◌∷◌, ◌++◌, length, map, take, drop, min, set, slice_get, nat_lt, Bool, true, false, not, if◌then◌else◌, Option, Some, None, option_map, refl, ap, sym, ◌∙◌, subst, arith, append_assoc, length-append}
use Rattle.std.proofs.lemmas.List.{append-nil, take_all, drop_all, drop-drop, take-append-drop, length-take-le, length-take, length-drop, length-map, length-set, set_past, set-append_left, set-append_right}
use Rattle.std.proofs.lemmas.Bool.{ltb-true, ltb-false}
use Rattle.rvt_num.specs.declared.values.Value.{Value}
use Rattle.rvt_tree.specs.declared.programs.Object.{Object}
use Rattle.c_meaning.specs.Stores.{cleared, stored, first_cell, overwritten, cells_in, with_cells_in, length_of}
use Rattle.c_places.specs.declared.extents.Extent.{Extent}
use Rattle.c_places.specs.Extents.{extent_at, extents_from, extent_of, contents_of}
use Rattle.c_places.specs.Ranges.{with_cleared}

-- ---- where an object lies

extent_from : (objects : List Object) (first number : ℕ) → slice_get (extents_from first objects) number ≡ option_map (extent_at (first + first_cell objects number)) (slice_get objects number)
extent_from [] first number = refl
extent_from (object ∷ objects) first zero = let q : first ≡ first + 0 = omega arith in ap (λ n. Some (extent_at n object)) q
extent_from (object ∷ objects) first (suc number) =
    let q : first + stored object + first_cell objects number ≡ first + (stored object + first_cell objects number) = omega arith in
    extent_from objects (first + stored object) number
    ∙ ap (λ n. option_map (extent_at n) (slice_get objects number)) q

pub extent_is : (objects : List Object) (number : ℕ) → slice_get (extents_from 0 objects) number ≡ extent_of objects number
extent_is objects number =
    let q : 0 + first_cell objects number ≡ first_cell objects number = omega arith in
    extent_from objects 0 number ∙ ap (λ n. option_map (extent_at n) (slice_get objects number)) q

-- ---- the cells of an object by its extent

abbrev cells_by : List Value → Option Object → Option Extent → List Value
cells_by store object None = []
cells_by store object (Some extent) = if extent.constant then contents_of object else take extent.length (drop extent.first store)

cells_are : (store : List Value) (first : ℕ) (object : Option Object) → cells_in store first object ≡ cells_by store object (option_map (extent_at first) object)
cells_are store first None = refl
cells_are store first (Some object) = refl

abbrev with_cells_by : List Value → List Value → Option Extent → List Value
with_cells_by store cells None = store
with_cells_by store cells (Some extent) = if extent.constant then store else overwritten store extent.first cells

with_cells_are : (store cells : List Value) (first : ℕ) (object : Option Object) → with_cells_in store first object cells ≡ with_cells_by store cells (option_map (extent_at first) object)
with_cells_are store cells first None = refl
with_cells_are store cells first (Some object) = refl

-- ---- a part of a store

taken_rest : (n : ℕ) (xs : List Value) → take n xs ++ drop (length (take n xs)) xs ≡ xs
taken_rest zero xs = refl
taken_rest (suc n) [] = refl
taken_rest (suc n) (x ∷ xs) = ap (λ ys. x ∷ ys) (taken_rest n xs)

behind_taken : (n : ℕ) (xs : List Value) → drop (length (take n xs)) xs ≡ drop n xs
behind_taken zero xs = refl
behind_taken (suc n) [] = refl
behind_taken (suc n) (x ∷ xs) = behind_taken n xs

-- a store is what is before a part, the part, and what is behind it
whole : (first n : ℕ) (store : List Value) → overwritten store first (take n (drop first store)) ≡ store
whole first n store =
    let part : List Value = take n (drop first store) in
    append_assoc (take first store) part (drop (first + length part) store)
    ∙ ap (λ t. take first store ++ (part ++ t)) (sym (drop-drop (length part) first store))
    ∙ ap (λ t. take first store ++ t) (taken_rest n (drop first store))
    ∙ take-append-drop first store

-- as many other cells in its place
changed_part : (first n : ℕ) (store cells : List Value) → length cells ≡ length (take n (drop first store)) →
    overwritten store first cells ≡ take first store ++ cells ++ drop (first + length (take n (drop first store))) store
changed_part first n store cells same = ap (λ k. take first store ++ cells ++ drop (first + k) store) same

module _ (first n : ℕ) (store : List Value) (cell : ℕ) (v : Value) where
  abbrev part : List Value
  part = take n (drop first store)

  abbrev behind : List Value
  behind = drop (first + length part) store

  part_length : length part ≡ min n (length store - first)
  part_length = length-take n (drop first store) ∙ ap (λ k. min n k) (length-drop first store)

  same_length : length (set part cell v) ≡ length part
  same_length = length-set part cell v

  set_inside : cell < length part → overwritten store first (set part cell v) ≡ set store (first + cell) v
  set_inside h =
      let len : length part ≡ min n (length store - first) = part_length in
      let front : length (take first store) ≡ first = length-take-le first store (omega arith) in
      let both : length (take first store ++ part) ≡ length (take first store) + length part = length-append (take first store) part in
      let inside : first + cell < length (take first store ++ part) = omega arith in
      let back : first + cell - first ≡ cell = omega arith in
      changed_part first n store (set part cell v) same_length
      ∙ ap (λ t. t ++ behind) (ap (λ k. take first store ++ set part k v) (sym back) ∙ sym (set-append_right (take first store) part first (first + cell) v front (omega arith)))
      ∙ sym (set-append_left (take first store ++ part) behind (first + cell) v inside)
      ∙ ap (λ t. set t (first + cell) v) (whole first n store)

  set_outside : length part ≤ cell → overwritten store first (set part cell v) ≡ store
  set_outside h = ap (overwritten store first) (set_past part cell v h) ∙ whole first n store

  set_by : (within : Bool) → nat_lt cell n ≡ within → (there : Bool) → nat_lt cell (length part) ≡ there →
      overwritten store first (set part cell v) ≡ (if within then set store (first + cell) v else store)
  set_by true w true t = set_inside (ltb-true cell (length part) t)
  set_by true w false t =
      let len : length part ≡ min n (length store - first) = part_length in
      let past : length part ≤ cell = ltb-false cell (length part) t in
      let inside : cell < n = ltb-true cell n w in
      set_outside past ∙ sym (set_past store (first + cell) v (omega arith))
  set_by false w there t =
      let len : length part ≡ min n (length store - first) = part_length in
      let past : n ≤ cell = ltb-false cell n w in
      set_outside (omega arith)

  set_cell : overwritten store first (set part cell v) ≡ (if nat_lt cell n then set store (first + cell) v else store)
  set_cell = set_by (nat_lt cell n) refl (nat_lt cell (length part)) refl

cleared_part : (first n : ℕ) (store : List Value) → overwritten store first (map cleared (take n (drop first store))) ≡ with_cleared first n store
cleared_part first n store =
    let part : List Value = take n (drop first store) in
    changed_part first n store (map cleared part) (length-map part cleared)
    ∙ append_assoc (take first store) (map cleared part) (drop (first + length part) store)
    ∙ ap (λ t. take first store ++ (map cleared part ++ t)) (sym (drop-drop (length part) first store) ∙ behind_taken n (drop first store) ∙ drop-drop n first store)

-- ---- an object's cells, where it is in the store

not_true : (b : Bool) → not b ≡ true → b ≡ false
not_true true h = absurd (cc)
not_true false h = refl

module _ (objects : List Object) (store : List Value) (number : ℕ) where
  abbrev its_cells : List Value
  its_cells = cells_in store (first_cell objects number) (slice_get objects number)

  abbrev with_its : List Value → List Value
  with_its cells = with_cells_in store (first_cell objects number) (slice_get objects number) cells

  by_extent : (it : Option Extent) → it ≡ extent_of objects number → its_cells ≡ cells_by store (slice_get objects number) it
  by_extent it h = cells_are store (first_cell objects number) (slice_get objects number) ∙ ap (cells_by store (slice_get objects number)) (sym h)

  with_by_extent : (it : Option Extent) → it ≡ extent_of objects number → (cells : List Value) → with_its cells ≡ with_cells_by store cells it
  with_by_extent it h cells = with_cells_are store cells (first_cell objects number) (slice_get objects number) ∙ ap (with_cells_by store cells) (sym h)

  module _ (it : Extent) (h : Some it ≡ extent_of objects number) where
    stored_are : it.constant ≡ false → its_cells ≡ take it.length (drop it.first store)
    stored_are c = by_extent (Some it) h ∙ ap (λ b. if b then contents_of (slice_get objects number) else take it.length (drop it.first store)) c

    stored_with : it.constant ≡ false → (cells : List Value) → with_its cells ≡ overwritten store it.first cells
    stored_with c cells = with_by_extent (Some it) h cells ∙ ap (λ b. if b then store else overwritten store it.first cells) c

    pub stored_written : not it.constant ≡ true → (cell : ℕ) (v : Value) →
        with_its (set its_cells cell v) ≡ (if nat_lt cell it.length then set store (it.first + cell) v else store)
    stored_written c cell v =
        stored_with (not_true it.constant c) (set its_cells cell v)
        ∙ ap (λ t. overwritten store it.first (set t cell v)) (stored_are (not_true it.constant c))
        ∙ set_cell it.first it.length store cell v

    pub stored_cleared : not it.constant ≡ true → with_its (map cleared its_cells) ≡ with_cleared it.first it.length store
    stored_cleared c =
        stored_with (not_true it.constant c) (map cleared its_cells)
        ∙ ap (λ t. overwritten store it.first (map cleared t)) (stored_are (not_true it.constant c))
        ∙ cleared_part it.first it.length store
