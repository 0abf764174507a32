-- The cells of an object, by where it lies.
use Rattle.std.proofs.Common.{◌≡◌, ℕ, zero, suc, ◌+◌, ◌≤◌, List, [], ◌∷◌, ◌++◌, length, map, take, drop, set, slice_get, nat_lt, Bool, true, false, not, if◌then◌else◌, Option, Some, None, option_map, refl, ap, sym, ◌∙◌, subst, arith}
use Rattle.std.proofs.lemmas.List.{drop_at, take_at, drop-drop}
use Rattle.rvt_num.specs.declared.values.Value.{Value}
use Rattle.rvt_tree.specs.declared.programs.Object.{Object}
use Rattle.c_meaning.specs.Stores.{cleared, stored, first_cell, overwritten, cells_in, with_cells_in, length_of}
use Rattle.flat_memory.specs.declared.extents.Extent.{Extent}
use Rattle.flat_memory.specs.Extents.{kept_apart, extent_at, extents_from, extent_of, first_constant, constant_contents, store_length}
use Rattle.flat_memory.specs.Cells.{with_cleared}
use Rattle.flat_memory.proofs.Parts.{set_cell, cleared_part}

-- ---- where an object lies

extent_from : (objects : List Object) (first constants number : ℕ) →
    slice_get (extents_from first constants objects) number ≡ option_map (extent_at (first + first_cell objects number) (constants + first_constant objects number)) (slice_get objects number)
extent_from [] first constants number = refl
extent_from (object ∷ objects) first constants zero =
    let q : first ≡ first + 0 = omega arith in
    let r : constants ≡ constants + 0 = omega arith in
    ap (λ n. Some (extent_at n constants object)) q ∙ ap (λ n. Some (extent_at (first + 0) n object)) r
extent_from (object ∷ objects) first constants (suc number) =
    let q : first + stored object + first_cell objects number ≡ first + (stored object + first_cell objects number) = omega arith in
    let r : constants + kept_apart object + first_constant objects number ≡ constants + (kept_apart object + first_constant objects number) = omega arith in
    extent_from objects (first + stored object) (constants + kept_apart object) number
    ∙ ap (λ n. option_map (extent_at n (constants + kept_apart object + first_constant objects number)) (slice_get objects number)) q
    ∙ ap (λ n. option_map (extent_at (first + (stored object + first_cell objects number)) n) (slice_get objects number)) r

pub extent_is : (objects : List Object) (number : ℕ) → slice_get (extents_from 0 0 objects) number ≡ extent_of objects number
extent_is objects number =
    let q : 0 + first_cell objects number ≡ first_cell objects number = omega arith in
    let r : 0 + first_constant objects number ≡ first_constant objects number = omega arith in
    extent_from objects 0 0 number
    ∙ ap (λ n. option_map (extent_at n (0 + first_constant objects number)) (slice_get objects number)) q
    ∙ ap (λ n. option_map (extent_at (first_cell objects number) n) (slice_get objects number)) r

-- ---- the contents of a constant object among those of all

skip_by : (b : Bool) (initial : List Value) (n : ℕ) (rest : List Value) → drop ((if b then length initial else 0) + n) ((if b then initial else []) ++ rest) ≡ drop n rest
skip_by true initial n rest = sym (drop-drop n (length initial) (initial ++ rest)) ∙ ap (drop n) (drop_at initial rest (length initial) refl)
skip_by false initial n rest = let q : 0 + n ≡ n = omega arith in ap (λ k. drop k rest) q

skip : (object : Object) (n : ℕ) (rest : List Value) → drop (kept_apart object + n) ((if object.constant then object.initial else []) ++ rest) ≡ drop n rest
skip object n rest = skip_by object.constant object.initial n rest

constant_here : (object : Object) (rest : List Value) → object.constant ≡ true → take (length object.initial) ((if object.constant then object.initial else []) ++ rest) ≡ object.initial
constant_here object rest c =
    ap (λ b. take (length object.initial) ((if b then object.initial else []) ++ rest)) c
    ∙ take_at object.initial rest (length object.initial) refl

constants_are : (objects : List Object) (number : ℕ) (object : Object) → slice_get objects number ≡ Some object → object.constant ≡ true →
    take (length object.initial) (drop (first_constant objects number) (constant_contents objects)) ≡ object.initial
constants_are [] number object h c = absurd (cc)
constants_are (o ∷ objects) zero object h c =
    let e : object ≡ o = cc in
    subst (λ x. x.constant ≡ true → take (length x.initial) (constant_contents (o ∷ objects)) ≡ x.initial) (sym e) (constant_here o (constant_contents objects)) c
constants_are (o ∷ objects) (suc number) object h c =
    ap (take (length object.initial)) (skip o (first_constant objects number) (constant_contents objects))
    ∙ constants_are objects number object h c

pub stored_inside : (objects : List Object) (number : ℕ) (object : Object) → slice_get objects number ≡ Some object → first_cell objects number + stored object ≤ store_length objects
stored_inside [] number object h = absurd (cc)
stored_inside (o ∷ objects) zero object h =
    let e : o ≡ object = cc in
    subst (λ x. 0 + stored x ≤ store_length (o ∷ objects)) e (omega arith)
stored_inside (o ∷ objects) (suc number) object h =
    let rest : first_cell objects number + stored object ≤ store_length objects = stored_inside objects number object h in
    omega arith

-- ---- the cells of an object by its extent

not_true : (b : Bool) → not b ≡ true → b ≡ false
not_true true h = absurd (cc)
not_true false h = refl

it_is : (f : Object → Extent) (o : Option Object) (it : Extent) → Some it ≡ option_map f o → (object : Object) × (o ≡ Some object) × (it ≡ f object)
it_is f None it h = absurd (cc)
it_is f (Some object) it h = (object, refl, cc)

none_is : (f : Object → Extent) (o : Option Object) → None ≡ option_map f o → o ≡ None
none_is f None h = refl
none_is f (Some object) h = absurd (cc)

module _ (objects : List Object) (store : List Value) (number : ℕ) where
  abbrev first : ℕ
  first = first_cell objects number

  abbrev its_cells : List Value
  its_cells = cells_in store first (slice_get objects number)

  abbrev with_its : List Value → List Value
  with_its cells = with_cells_in store first (slice_get objects number) cells

  abbrev its_extent : Object → Extent
  its_extent = extent_at first (first_constant objects number)

  pub no_cells : None ≡ extent_of objects number → [] ≡ its_cells
  no_cells h = ap (cells_in store first) (sym (none_is its_extent (slice_get objects number) h))

  pub none_length : None ≡ extent_of objects number → 0 ≡ length_of (slice_get objects number)
  none_length h = ap length_of (sym (none_is its_extent (slice_get objects number) h))

  pub no_object : None ≡ extent_of objects number → (cells : List Value) → store ≡ with_its cells
  no_object h cells = ap (λ o. with_cells_in store first o cells) (sym (none_is its_extent (slice_get objects number) h))

  module _ (object : Object) (o : slice_get objects number ≡ Some object) where
    constant_of : object.constant ≡ true → take (length object.initial) (drop (if object.constant then first_constant objects number else first) (constant_contents objects)) ≡ its_cells
    constant_of c =
        ap (λ b. take (length object.initial) (drop (if b then first_constant objects number else first) (constant_contents objects))) c
        ∙ constants_are objects number object o c
        ∙ sym (ap (cells_in store first) o ∙ ap (λ b. if b then object.initial else take (length object.initial) (drop first store)) c)

    stored_of : object.constant ≡ false → take (length object.initial) (drop (if object.constant then first_constant objects number else first) store) ≡ its_cells
    stored_of c =
        ap (λ b. take (length object.initial) (drop (if b then first_constant objects number else first) store)) c
        ∙ sym (ap (cells_in store first) o ∙ ap (λ b. if b then object.initial else take (length object.initial) (drop first store)) c)

    constant_with_of : object.constant ≡ true → (cells : List Value) → store ≡ with_its cells
    constant_with_of c cells = sym (ap (λ x. with_cells_in store first x cells) o ∙ ap (λ b. if b then store else overwritten store first cells) c)

    with_of : object.constant ≡ false → (cells : List Value) → overwritten store (if object.constant then first_constant objects number else first) cells ≡ with_its cells
    with_of c cells =
        ap (λ b. overwritten store (if b then first_constant objects number else first) cells) c
        ∙ sym (ap (λ x. with_cells_in store first x cells) o ∙ ap (λ b. if b then store else overwritten store first cells) c)

    inside_of : object.constant ≡ false → (if object.constant then first_constant objects number else first) + length object.initial ≤ store_length objects
    inside_of c =
        let inside : first + stored object ≤ store_length objects = stored_inside objects number object o in
        let all : stored object ≡ length object.initial = ap (λ b. if b then 0 else length object.initial) c in
        let at : (if object.constant then first_constant objects number else first) ≡ first = ap (λ b. if b then first_constant objects number else first) c in
        omega arith

  module _ (it : Extent) (h : Some it ≡ extent_of objects number) where
    found : (object : Object) × (slice_get objects number ≡ Some object) × (it ≡ its_extent object)
    found = it_is its_extent (slice_get objects number) it h

    pub length_is : it.count ≡ length_of (slice_get objects number)
    length_is = ap (λ x. x.count) found.2 ∙ sym (ap length_of found.1)

    pub constant_cells : it.constant ≡ true → take it.count (drop it.first (constant_contents objects)) ≡ its_cells
    constant_cells = subst (λ x. x.constant ≡ true → take x.count (drop x.first (constant_contents objects)) ≡ its_cells) (sym found.2) (constant_of found.0 found.1)

    pub stored_cells : not it.constant ≡ true → take it.count (drop it.first store) ≡ its_cells
    stored_cells c = subst (λ x. x.constant ≡ false → take x.count (drop x.first store) ≡ its_cells) (sym found.2) (stored_of found.0 found.1) (not_true it.constant c)

    pub constant_with : it.constant ≡ true → (cells : List Value) → store ≡ with_its cells
    constant_with = subst (λ x. x.constant ≡ true → (cells : List Value) → store ≡ with_its cells) (sym found.2) (constant_with_of found.0 found.1)

    pub stored_with : not it.constant ≡ true → (cells : List Value) → overwritten store it.first cells ≡ with_its cells
    stored_with c = subst (λ x. x.constant ≡ false → (cells : List Value) → overwritten store x.first cells ≡ with_its cells) (sym found.2) (with_of found.0 found.1) (not_true it.constant c)

    pub inside : not it.constant ≡ true → it.first + it.count ≤ store_length objects
    inside c = subst (λ x. x.constant ≡ false → x.first + x.count ≤ store_length objects) (sym found.2) (inside_of found.0 found.1) (not_true it.constant c)

    pub stored_written : not it.constant ≡ true → (cell : ℕ) (v : Value) → (if nat_lt cell it.count then set store (it.first + cell) v else store) ≡ with_its (set its_cells cell v)
    stored_written c cell v =
        sym (set_cell it.first it.count store cell v)
        ∙ ap (λ t. overwritten store it.first (set t cell v)) (stored_cells c)
        ∙ stored_with c (set its_cells cell v)

    pub stored_cleared : not it.constant ≡ true → with_cleared it.first it.count store ≡ with_its (map cleared its_cells)
    stored_cleared c =
        sym (cleared_part it.first it.count store)
        ∙ ap (λ t. overwritten store it.first (map cleared t)) (stored_cells c)
        ∙ stored_with c (map cleared its_cells)
