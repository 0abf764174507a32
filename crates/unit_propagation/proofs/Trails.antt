-- Literals that come onto a trail and leave it.
use Rattle.std.proofs.Common.{◌≡◌, ◌≢◌, inl, inr, ℕ, ℤ, pos, ◌<◌, ◌≤◌, ◌+◌, ◌-◌, List, [], ◌∷◌, ◌++◌, length, slice_index, slice_index_or, set, refl, sym, ap, ◌∙◌, arith, subst, length-append, min, sum_by}
use Rattle.std.specs.Prelude.{Contains}
use Rattle.std.proofs.Math.ListN.{length-set}
use Rattle.std.proofs.lemmas.Bool.{cases_lt, cases_eq}
use Rattle.std.proofs.Math.Seq.{get_or-append_seam}
use Rattle.std.proofs.lemmas.List.{get_or_append_left, get_or-set_other, get_or-set_same}
use Rattle.std.proofs.lemmas.List.Sums.{sum_by-set, sum_by-cons}
use Rattle.clause_db.specs.Literal.{variable_of, opposite}
use Rattle.clause_db.proofs.Ordered.{same_or_opposite, contains_at}
use Rattle.unit_propagation.specs.Places.{literal_at, PlacesAreRight, ValuesAreRight}
use Rattle.unit_propagation.specs.Truth.{IsFree}

-- where the trail has another literal of the variable, the literal is false
pub false_by_place : (trail : List ℤ) (places : List ℕ) → PlacesAreRight trail places → (l : ℤ) (n : ℕ) (m : ℤ) → variable_of l < length places → n ≡ slice_index places (variable_of l) → 0 < n → m ≡ literal_at trail (n - 1) → m ≢ l → Contains trail (opposite l)
false_by_place trail places right l n m within is above at differ =
    let w = right.of_variable (variable_of l) within (subst (λ k. 0 < k) is above) in
    let same : variable_of l ≡ variable_of m = sym (ap variable_of at ∙ ap (λ k. variable_of (literal_at trail (k - 1))) is ∙ w.1) in
    let fits : n ≤ length trail = subst (λ k. k ≤ length trail) (sym is) w.0 in
    elim (same_or_opposite l m same) [
      | inl e ↦ absurd (differ (sym e))
      | inr e ↦ subst (Contains trail) (sym at ∙ e) (contains_at trail (n - 1) (omega arith))
    ]

pub literal_at-push_old : (trail : List ℤ) (l : ℤ) (p : ℕ) → p < length trail → literal_at (trail ++ l ∷ []) p ≡ literal_at trail p
literal_at-push_old trail l p h = get_or_append_left trail (l ∷ []) (pos 0) p h

pub literal_at-push_new : (trail : List ℤ) (l : ℤ) → literal_at (trail ++ l ∷ []) (length trail) ≡ l
literal_at-push_new trail l = get_or-append_seam trail l [] (pos 0)

-- a free variable has the place 0
pub free_place : (trail : List ℤ) (places : List ℕ) → PlacesAreRight trail places → (l : ℤ) → variable_of l < length places → IsFree trail l → slice_index places (variable_of l) ≡ 0
free_place trail places right l within free =
    elim (cases_lt 0 (slice_index places (variable_of l))) [
      | inl h ↦ let w = right.of_variable (variable_of l) within h in absurd (free (slice_index places (variable_of l) - 1) (omega (arith, w.0)) w.1)
      | inr h ↦ omega arith
    ]

-- one literal more, or another value at one place
length_more : (trail : List ℤ) (l : ℤ) → length (trail ++ l ∷ []) ≡ length trail + 1
length_more trail l = simp length-append (omega arith)

-- the places after a push
pub places_push : (trail : List ℤ) (places : List ℕ) → PlacesAreRight trail places → (l : ℤ) → 0 < variable_of l → variable_of l < length places → IsFree trail l → PlacesAreRight (trail ++ l ∷ []) (set places (variable_of l) (length trail + 1))
places_push trail places right l positive within free = record { of_literal = literals; of_variable = variables; counted = count } where
  new : List ℕ
  new = set places (variable_of l) (length trail + 1)

  at_new : slice_index (set places (variable_of l) (length trail + 1)) (variable_of l) ≡ length trail + 1
  at_new = get_or-set_same places (variable_of l) (length trail + 1) 0 within

  at_other : (v : ℕ) → v ≢ variable_of l → slice_index (set places (variable_of l) (length trail + 1)) v ≡ slice_index places v
  at_other v ne = get_or-set_other places (variable_of l) v (length trail + 1) 0 ne

  literals : (p : ℕ) → p < length (trail ++ l ∷ []) → (0 < variable_of (literal_at (trail ++ l ∷ []) p)) × (variable_of (literal_at (trail ++ l ∷ []) p) < length (set places (variable_of l) (length trail + 1))) × (slice_index (set places (variable_of l) (length trail + 1)) (variable_of (literal_at (trail ++ l ∷ []) p)) ≡ p + 1)
  literals p h = elim (cases_lt p (length trail)) [
    | inl k ↦
        let old = right.of_literal p k in
        rw (literal_at-push_old trail l p k, length-set) (old.0, old.1, at_other (variable_of (literal_at trail p)) (free p k) ∙ old.2)
    | inr k ↦
        let e : p ≡ length trail = omega (arith, length_more trail l) in
        rw (e, literal_at-push_new trail l, length-set) (positive, within, at_new)
  ]

  variables : (v : ℕ) → v < length (set places (variable_of l) (length trail + 1)) → 0 < slice_index (set places (variable_of l) (length trail + 1)) v → (slice_index (set places (variable_of l) (length trail + 1)) v ≤ length (trail ++ l ∷ [])) × (variable_of (literal_at (trail ++ l ∷ []) (slice_index (set places (variable_of l) (length trail + 1)) v - 1)) ≡ v)
  variables v h above = elim (cases_eq v (variable_of l)) [
    | inl e ↦ rw (e, at_new) (omega (arith, length_more trail l), ap (λ k. variable_of (literal_at (trail ++ l ∷ []) k)) (let back : length trail + 1 - 1 ≡ length trail = omega arith in back) ∙ ap variable_of (literal_at-push_new trail l))
    | inr ne ↦
        let some : 0 < slice_index places v = rw (at_other v ne) at above in
        let w = right.of_variable v (rw length-set at h) some in
        rw (at_other v ne) (omega (arith, length_more trail l, w.0), ap variable_of (literal_at-push_old trail l (slice_index places v - 1) (omega (arith, w.0, some))) ∙ w.1)
  ]

  count : sum_by (min 1) (set places (variable_of l) (length trail + 1)) ≡ length (trail ++ l ∷ [])
  count = omega (arith, length_more trail l, right.counted, sum_by-set (min 1) places (variable_of l) (length trail + 1) 0 within, free_place trail places right l within free)

-- the places after a pop
pub places_pop : (trail : List ℤ) (places : List ℕ) (l : ℤ) → PlacesAreRight (trail ++ l ∷ []) places → PlacesAreRight trail (set places (variable_of l) 0)
places_pop trail places l right = record { of_literal = literals; of_variable = variables; counted = count } where
  last : (0 < variable_of l) × (variable_of l < length places) × (slice_index places (variable_of l) ≡ length trail + 1)
  last = rw literal_at-push_new at (right.of_literal (length trail) (omega (arith, length_more trail l)))

  at_other : (v : ℕ) → v ≢ variable_of l → slice_index (set places (variable_of l) 0) v ≡ slice_index places v
  at_other v ne = get_or-set_other places (variable_of l) v 0 0 ne

  old : (p : ℕ) → p < length trail → (0 < variable_of (literal_at trail p)) × (variable_of (literal_at trail p) < length places) × (slice_index places (variable_of (literal_at trail p)) ≡ p + 1)
  old p k = rw (literal_at-push_old trail l p k) at (right.of_literal p (omega (arith, length_more trail l)))

  literals : (p : ℕ) → p < length trail → (0 < variable_of (literal_at trail p)) × (variable_of (literal_at trail p) < length (set places (variable_of l) 0)) × (slice_index (set places (variable_of l) 0) (variable_of (literal_at trail p)) ≡ p + 1)
  literals p k =
      let other : variable_of (literal_at trail p) ≢ variable_of l = λ e. absurd (let same = ap (slice_index places) e in omega (arith, same, last.2, (old p k).2)) in
      rw length-set ((old p k).0, (old p k).1, at_other (variable_of (literal_at trail p)) other ∙ (old p k).2)

  variables : (v : ℕ) → v < length (set places (variable_of l) 0) → 0 < slice_index (set places (variable_of l) 0) v → (slice_index (set places (variable_of l) 0) v ≤ length trail) × (variable_of (literal_at trail (slice_index (set places (variable_of l) 0) v - 1)) ≡ v)
  variables v h above = elim (cases_eq v (variable_of l)) [
    | inl e ↦ absurd (let zero : slice_index (set places (variable_of l) 0) v ≡ 0 = rw e (get_or-set_same places (variable_of l) 0 0 last.1) in omega (arith, zero, above))
    | inr ne ↦
        let some : 0 < slice_index places v = rw (at_other v ne) at above in
        let w = right.of_variable v (rw length-set at h) some in
        let not_last : slice_index places v ≢ length trail + 1 = λ e. ne (sym w.1 ∙ ap (λ k. variable_of (literal_at (trail ++ l ∷ []) (k - 1))) e ∙ ap (λ k. variable_of (literal_at (trail ++ l ∷ []) k)) (let back : length trail + 1 - 1 ≡ length trail = omega arith in back) ∙ ap variable_of (literal_at-push_new trail l)) in
        let low : slice_index places v ≤ length trail = omega (arith, w.0, not_last, length_more trail l) in
        rw (at_other v ne) (low, ap variable_of (sym (literal_at-push_old trail l (slice_index places v - 1) (omega (arith, low, some)))) ∙ w.1)
  ]

  count : sum_by (min 1) (set places (variable_of l) 0) ≡ length trail
  count = omega (arith, length_more trail l, right.counted, sum_by-set (min 1) places (variable_of l) 0 0 last.1, last.2)

-- what the table of values says of a literal
module _ (trail : List ℤ) (places : List ℕ) (values : List ℤ) (right : PlacesAreRight trail places) (values_right : ValuesAreRight trail places values) (l m : ℤ) (within : variable_of l < length places) (is : m ≡ slice_index_or values (variable_of l) (pos 0)) where
  -- a variable with a literal has a place
  has_place : m ≢ pos 0 → 0 < slice_index places (variable_of l)
  has_place some = elim (cases_lt 0 (slice_index places (variable_of l))) [
    | inl h ↦ h
    | inr h ↦ absurd (some (is ∙ values_right.of_free (variable_of l) within (omega arith)))
  ]

  -- another literal of the variable is true
  pub false_by_value : m ≢ pos 0 → m ≢ l → Contains trail (opposite l)
  false_by_value some differ =
      false_by_place trail places right l (slice_index places (variable_of l)) m within refl (has_place some) (is ∙ values_right.of_known (variable_of l) within (has_place some)) differ

-- the values after a push
pub values_push : (trail : List ℤ) (places : List ℕ) (values : List ℤ) → PlacesAreRight trail places → ValuesAreRight trail places values → length values ≡ length places → (l : ℤ) → variable_of l < length places → ValuesAreRight (trail ++ l ∷ []) (set places (variable_of l) (length trail + 1)) (set values (variable_of l) l)
values_push trail places values right values_right same l within = record { of_free = frees; of_known = knowns } where
  place_new : slice_index (set places (variable_of l) (length trail + 1)) (variable_of l) ≡ length trail + 1
  place_new = get_or-set_same places (variable_of l) (length trail + 1) 0 within

  place_other : (v : ℕ) → v ≢ variable_of l → slice_index (set places (variable_of l) (length trail + 1)) v ≡ slice_index places v
  place_other v ne = get_or-set_other places (variable_of l) v (length trail + 1) 0 ne

  value_new : slice_index_or (set values (variable_of l) l) (variable_of l) (pos 0) ≡ l
  value_new = get_or-set_same values (variable_of l) l (pos 0) (omega (arith, within, same))

  value_other : (v : ℕ) → v ≢ variable_of l → slice_index_or (set values (variable_of l) l) v (pos 0) ≡ slice_index_or values v (pos 0)
  value_other v ne = get_or-set_other values (variable_of l) v l (pos 0) ne

  frees : (v : ℕ) → v < length (set places (variable_of l) (length trail + 1)) → slice_index (set places (variable_of l) (length trail + 1)) v ≡ 0 → slice_index_or (set values (variable_of l) l) v (pos 0) ≡ pos 0
  frees v h none = elim (cases_eq v (variable_of l)) [
    | inl e ↦ absurd (let n = ap (slice_index (set places (variable_of l) (length trail + 1))) e ∙ place_new in omega (arith, n, none))
    | inr ne ↦ value_other v ne ∙ values_right.of_free v (rw length-set at h) (sym (place_other v ne) ∙ none)
  ]

  knowns : (v : ℕ) → v < length (set places (variable_of l) (length trail + 1)) → 0 < slice_index (set places (variable_of l) (length trail + 1)) v → slice_index_or (set values (variable_of l) l) v (pos 0) ≡ literal_at (trail ++ l ∷ []) (slice_index (set places (variable_of l) (length trail + 1)) v - 1)
  knowns v h above = elim (cases_eq v (variable_of l)) [
    | inl e ↦ rw (e, place_new, value_new) (sym (ap (literal_at (trail ++ l ∷ [])) (let back : length trail + 1 - 1 ≡ length trail = omega arith in back) ∙ literal_at-push_new trail l))
    | inr ne ↦
        let some : 0 < slice_index places v = rw (place_other v ne) at above in
        let w = right.of_variable v (rw length-set at h) some in
        rw (place_other v ne, value_other v ne) (values_right.of_known v (rw length-set at h) some ∙ sym (literal_at-push_old trail l (slice_index places v - 1) (omega (arith, w.0, some))))
  ]

-- the values after a pop
pub values_pop : (trail : List ℤ) (places : List ℕ) (values : List ℤ) (l : ℤ) → PlacesAreRight (trail ++ l ∷ []) places → ValuesAreRight (trail ++ l ∷ []) places values → length values ≡ length places → ValuesAreRight trail (set places (variable_of l) 0) (set values (variable_of l) (pos 0))
values_pop trail places values l right values_right same = record { of_free = frees; of_known = knowns } where
  last : (0 < variable_of l) × (variable_of l < length places) × (slice_index places (variable_of l) ≡ length trail + 1)
  last = rw literal_at-push_new at (right.of_literal (length trail) (omega (arith, length_more trail l)))

  place_new : slice_index (set places (variable_of l) 0) (variable_of l) ≡ 0
  place_new = get_or-set_same places (variable_of l) 0 0 last.1

  place_other : (v : ℕ) → v ≢ variable_of l → slice_index (set places (variable_of l) 0) v ≡ slice_index places v
  place_other v ne = get_or-set_other places (variable_of l) v 0 0 ne

  value_new : slice_index_or (set values (variable_of l) (pos 0)) (variable_of l) (pos 0) ≡ pos 0
  value_new = get_or-set_same values (variable_of l) (pos 0) (pos 0) (omega (arith, last.1, same))

  value_other : (v : ℕ) → v ≢ variable_of l → slice_index_or (set values (variable_of l) (pos 0)) v (pos 0) ≡ slice_index_or values v (pos 0)
  value_other v ne = get_or-set_other values (variable_of l) v (pos 0) (pos 0) ne

  frees : (v : ℕ) → v < length (set places (variable_of l) 0) → slice_index (set places (variable_of l) 0) v ≡ 0 → slice_index_or (set values (variable_of l) (pos 0)) v (pos 0) ≡ pos 0
  frees v h none = elim (cases_eq v (variable_of l)) [
    | inl e ↦ ap (λ k. slice_index_or (set values (variable_of l) (pos 0)) k (pos 0)) e ∙ value_new
    | inr ne ↦ value_other v ne ∙ values_right.of_free v (rw length-set at h) (sym (place_other v ne) ∙ none)
  ]

  knowns : (v : ℕ) → v < length (set places (variable_of l) 0) → 0 < slice_index (set places (variable_of l) 0) v → slice_index_or (set values (variable_of l) (pos 0)) v (pos 0) ≡ literal_at trail (slice_index (set places (variable_of l) 0) v - 1)
  knowns v h above = elim (cases_eq v (variable_of l)) [
    | inl e ↦ absurd (let n = ap (slice_index (set places (variable_of l) 0)) e ∙ place_new in omega (arith, n, above))
    | inr ne ↦
        let some : 0 < slice_index places v = rw (place_other v ne) at above in
        let w = right.of_variable v (rw length-set at h) some in
        let not_last : slice_index places v ≢ length trail + 1 = λ e. ne (sym w.1 ∙ ap (λ k. variable_of (literal_at (trail ++ l ∷ []) (k - 1))) e ∙ ap (λ k. variable_of (literal_at (trail ++ l ∷ []) k)) (let back : length trail + 1 - 1 ≡ length trail = omega arith in back) ∙ ap variable_of (literal_at-push_new trail l)) in
        let low : slice_index places v ≤ length trail = omega (arith, w.0, not_last, length_more trail l) in
        rw (place_other v ne, value_other v ne) (values_right.of_known v (rw length-set at h) some ∙ literal_at-push_old trail l (slice_index places v - 1) (omega (arith, low, some)))
  ]

-- there is a place for each literal
pub trail_fits : (trail : List ℤ) (places : List ℕ) → PlacesAreRight trail places → length trail ≤ length places
trail_fits trail places right = omega (arith, right.counted, at_most places) where
  at_most : (xs : List ℕ) → sum_by (min 1) xs ≤ length xs
  at_most [] = omega arith
  at_most (x ∷ xs) = let h = at_most xs in rw sum_by-cons (omega (arith, h))
