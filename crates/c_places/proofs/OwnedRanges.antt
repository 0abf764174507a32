-- The ranges that a function owns, against the objects that it owns.
use Rattle.std.proofs.Common.{◌≡◌, ℕ, zero, suc, ◌+◌, ◌-◌, ◌<◌, ◌≤◌, min, List, [], ◌∷◌, ◌++◌, length, map, take, drop, Bool, true, false, ◌&&◌, nat_le, if◌then◌else◌, refl, ap, sym, ◌∙◌, subst, arith, append_assoc, length-append}
use Rattle.std.proofs.lemmas.List.{append-nil, take_all, drop_all, drop-drop, take-append-drop, take_at, drop_at, length-take-le, length-take, length-drop}
use Rattle.std.proofs.lemmas.Bool.{leb-true}
use Rattle.std.proofs.Math.Seq.{take-add}
use Rattle.rvt_num.specs.declared.values.Value.{Value}
use Rattle.rvt_tree.specs.declared.programs.Object.{Object}
use Rattle.c_meaning.specs.Stores.{stored, cleared, overwritten}
use Rattle.c_meaning.specs.Runs.{is_owner, for_owned}
use Rattle.c_places.specs.declared.ranges.Range.{Range}
use Rattle.c_places.specs.Kept.{owned_cells, put_back}
use Rattle.c_places.specs.Extents.{own_range, owned_ranges}
use Rattle.c_places.specs.Ranges.{with_cleared, cells_in_ranges, with_cleared_ranges, fits, with_ranges}
use Rattle.c_places.proofs.PutBack.{take_none}

-- ---- what is kept

abbrev range_at : ℕ → ℕ → Range
range_at first n = record { first = first; length = n }

kept_step : (b : Bool) (first n : ℕ) (ranges : List Range) (keep : List Value → List Value) (store : List Value) →
    cells_in_ranges ranges store ≡ keep (drop (first + n) store) →
    cells_in_ranges ((if b then range_at first n ∷ [] else []) ++ ranges) store ≡ (if b then take n (drop first store) else []) ++ keep (drop n (drop first store))
kept_step true first n ranges keep store h =
    ap (λ t. take n (drop first store) ++ t) (h ∙ ap keep (sym (drop-drop n first store)))
kept_step false first n ranges keep store h = h ∙ ap keep (sym (drop-drop n first store))

pub kept_is : (function : ℕ) (objects : List Object) (first : ℕ) (store : List Value) →
    cells_in_ranges (owned_ranges function first objects) store ≡ owned_cells function objects (drop first store)
kept_is function [] first store = refl
kept_is function (object ∷ objects) first store =
    kept_step (is_owner function object.owner) first (stored object) (owned_ranges function (first + stored object) objects) (owned_cells function objects) store
    (kept_is function objects (first + stored object) store)

-- ---- what is cleared

take_changed : (n : ℕ) (xs : List Value) → take n (map cleared (take n xs) ++ drop n xs) ≡ map cleared (take n xs)
take_changed zero xs = refl
take_changed (suc n) [] = refl
take_changed (suc n) (x ∷ xs) = ap (λ ys. cleared x ∷ ys) (take_changed n xs)

drop_changed : (n : ℕ) (xs : List Value) → drop n (map cleared (take n xs) ++ drop n xs) ≡ drop n xs
drop_changed zero xs = refl
drop_changed (suc n) [] = refl
drop_changed (suc n) (x ∷ xs) = drop_changed n xs

abbrev cleared_to : ℕ → ℕ → ℕ → List Value → List Value
cleared_to first n end xs = take first xs ++ (map cleared (take n (drop first xs)) ++ drop end xs)

take_cleared : (first n end : ℕ) (xs : List Value) → end ≡ first + n → take end (cleared_to first n end xs) ≡ take first xs ++ map cleared (take n (drop first xs))
take_cleared zero n end xs e =
    let same : n ≡ end = omega arith in
    subst (λ m. take m (map cleared (take n xs) ++ drop m xs) ≡ map cleared (take n xs)) same (take_changed n xs)
take_cleared (suc first) n zero xs e = absurd (omega arith)
take_cleared (suc first) n (suc end) [] e =
    ap (λ ys. take (suc end) (map cleared ys ++ [])) (take_none n) ∙ ap (λ ys. map cleared ys) (sym (take_none n))
take_cleared (suc first) n (suc end) (x ∷ xs) e = ap (λ ys. x ∷ ys) (take_cleared first n end xs (omega arith))

drop_cleared : (first n end : ℕ) (xs : List Value) → end ≡ first + n → drop end (cleared_to first n end xs) ≡ drop end xs
drop_cleared zero n end xs e =
    let same : n ≡ end = omega arith in
    subst (λ m. drop m (map cleared (take n xs) ++ drop m xs) ≡ drop m xs) same (drop_changed n xs)
drop_cleared (suc first) n zero xs e = absurd (omega arith)
drop_cleared (suc first) n (suc end) [] e = ap (λ ys. drop (suc end) (map cleared ys ++ [])) (take_none n)
drop_cleared (suc first) n (suc end) (x ∷ xs) e = drop_cleared first n end xs (omega arith)

-- what the objects become that are left
abbrev Change : Type 0
Change = List Value → List Value → List Value

cleared_first : (b : Bool) (first n : ℕ) (ranges : List Range) (others : Change) (store : List Value) →
    ((s : List Value) → with_cleared_ranges ranges s ≡ take (first + n) s ++ others (drop (first + n) s) (drop (first + n) s)) →
    with_cleared_ranges ((if b then range_at first n ∷ [] else []) ++ ranges) store
    ≡ take first store ++ ((if b then map cleared (take n (drop first store)) else take n (drop first store)) ++ others (drop n (drop first store)) (drop n (drop first store)))
cleared_first true first n ranges others store rest =
    let s : List Value = with_cleared first n store in
    rest s
    ∙ ap (λ t. t ++ others (drop (first + n) s) (drop (first + n) s)) (take_cleared first n (first + n) store refl)
    ∙ ap (λ t. (take first store ++ map cleared (take n (drop first store))) ++ others t t) (drop_cleared first n (first + n) store refl ∙ sym (drop-drop n first store))
    ∙ append_assoc (take first store) (map cleared (take n (drop first store))) (others (drop n (drop first store)) (drop n (drop first store)))
cleared_first false first n ranges others store rest =
    rest store
    ∙ ap (λ t. t ++ others (drop (first + n) store) (drop (first + n) store)) (take-add first n store)
    ∙ ap (λ t. (take first store ++ take n (drop first store)) ++ others t t) (sym (drop-drop n first store))
    ∙ append_assoc (take first store) (take n (drop first store)) (others (drop n (drop first store)) (drop n (drop first store)))

pub cleared_is : (function : ℕ) (objects : List Object) (first : ℕ) (store : List Value) →
    with_cleared_ranges (owned_ranges function first objects) store
    ≡ take first store ++ for_owned function objects (λ before now. map cleared now) (drop first store) (drop first store)
cleared_is function [] first store = sym (take-append-drop first store)
cleared_is function (object ∷ objects) first store =
    cleared_first (is_owner function object.owner) first (stored object) (owned_ranges function (first + stored object) objects)
    (for_owned function objects (λ before now. map cleared now)) store (cleared_is function objects (first + stored object))

-- ---- what is put back

le_of_true : (a b : ℕ) → nat_le a b ≡ true → a ≤ b
le_of_true a b h = leb-true a b h

and_left : (a b : Bool) → (a && b) ≡ true → a ≡ true
and_left true b h = refl
and_left false b h = absurd (cc)

and_right : (a b : Bool) → (a && b) ≡ true → b ≡ true
and_right true b h = h
and_right false b h = absurd (cc)

module _ (first n : ℕ) (cells store : List Value) (enough : n ≤ length cells) (inside : first + n ≤ length store) where
  taken_length : length (take n cells) ≡ n
  taken_length = length-take-le n cells enough

  front_length : length (take first store ++ take n cells) ≡ first + n
  front_length =
      let a : length (take first store) ≡ first = length-take-le first store (omega arith) in
      length-append (take first store) (take n cells) ∙ ap (λ k. k + length (take n cells)) a ∙ ap (λ k. first + k) taken_length

  take_written : take (first + n) (overwritten store first (take n cells)) ≡ take first store ++ take n cells
  take_written = take_at (take first store ++ take n cells) (drop (first + length (take n cells)) store) (first + n) front_length

  drop_written : drop (first + n) (overwritten store first (take n cells)) ≡ drop n (drop first store)
  drop_written =
      drop_at (take first store ++ take n cells) (drop (first + length (take n cells)) store) (first + n) front_length
      ∙ ap (λ k. drop (first + k) store) taken_length
      ∙ sym (drop-drop n first store)

  written_length : length (overwritten store first (take n cells)) ≡ length store
  written_length =
      let front : length (take first store ++ take n cells) ≡ first + n = front_length in
      let taken : length (take n cells) ≡ n = taken_length in
      let back : length (drop (first + length (take n cells)) store) ≡ length store - (first + length (take n cells)) = length-drop (first + length (take n cells)) store in
      length-append (take first store ++ take n cells) (drop (first + length (take n cells)) store) ∙ (omega arith)

put_first : (b : Bool) (first n : ℕ) (ranges : List Range) (others : Change) (cells store : List Value) →
    ((cs s : List Value) → fits ranges (length cs) (length s) ≡ true → with_ranges ranges cs s ≡ take (first + n) s ++ others cs (drop (first + n) s)) →
    fits ((if b then range_at first n ∷ [] else []) ++ ranges) (length cells) (length store) ≡ true →
    with_ranges ((if b then range_at first n ∷ [] else []) ++ ranges) cells store
    ≡ take first store ++ (if b then take n cells ++ others (drop n cells) (drop n (drop first store)) else take n (drop first store) ++ others cells (drop n (drop first store)))
put_first true first n ranges others cells store rest h =
    let enough : n ≤ length cells = le_of_true n (length cells) (and_left (nat_le n (length cells)) (nat_le (first + n) (length store) && fits ranges (length cells - n) (length store)) h) in
    let more : (nat_le (first + n) (length store) && fits ranges (length cells - n) (length store)) ≡ true = and_right (nat_le n (length cells)) (nat_le (first + n) (length store) && fits ranges (length cells - n) (length store)) h in
    let inside : first + n ≤ length store = le_of_true (first + n) (length store) (and_left (nat_le (first + n) (length store)) (fits ranges (length cells - n) (length store)) more) in
    let s : List Value = overwritten store first (take n cells) in
    let fit : fits ranges (length (drop n cells)) (length s) ≡ true =
    ap (λ k. fits ranges k (length s)) (length-drop n cells)
    ∙ ap (λ k. fits ranges (length cells - n) k) (written_length first n cells store enough inside)
    ∙ and_right (nat_le (first + n) (length store)) (fits ranges (length cells - n) (length store)) more in
    rest (drop n cells) s fit
    ∙ ap (λ t. t ++ others (drop n cells) (drop (first + n) s)) (take_written first n cells store enough inside)
    ∙ ap (λ t. (take first store ++ take n cells) ++ others (drop n cells) t) (drop_written first n cells store enough inside)
    ∙ append_assoc (take first store) (take n cells) (others (drop n cells) (drop n (drop first store)))
put_first false first n ranges others cells store rest h =
    rest cells store h
    ∙ ap (λ t. t ++ others cells (drop (first + n) store)) (take-add first n store)
    ∙ ap (λ t. (take first store ++ take n (drop first store)) ++ others cells t) (sym (drop-drop n first store))
    ∙ append_assoc (take first store) (take n (drop first store)) (others cells (drop n (drop first store)))

pub put_is : (function : ℕ) (objects : List Object) (first : ℕ) (cells store : List Value) →
    fits (owned_ranges function first objects) (length cells) (length store) ≡ true →
    with_ranges (owned_ranges function first objects) cells store ≡ take first store ++ put_back function objects cells (drop first store)
put_is function [] first cells store h = sym (take-append-drop first store)
put_is function (object ∷ objects) first cells store h =
    put_first (is_owner function object.owner) first (stored object) (owned_ranges function (first + stored object) objects)
    (put_back function objects) cells store (put_is function objects (first + stored object)) h
