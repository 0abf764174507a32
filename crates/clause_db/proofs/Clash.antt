-- Which clashes of two clauses have been passed, where both are read from the left.
use Rattle.std.proofs.Common.{◌≡◌, ◌≢◌, ◌⊎◌, inl, inr, ℕ, ℤ, pos, ◌<◌, ◌≤◌, ◌+◌, List, length, slice_index_or, refl, sym, ap, ◌∙◌, arith, Bool, true, subst}
use Rattle.std.specs.Prelude.{Contains}
use Rattle.clause_db.specs.Literal.{variable_of, opposite, IsOrdered, AreInRange}
use Rattle.clause_db.specs.Resolution.{ClashesAt, ClashesOnlyAt}
use Rattle.clause_db.proofs.Ordered.{variable_at, variable_of-opposite, same_or_opposite, not_opposite_self, variable_at-mono, same_place, contains_at, read_at_place}

-- a literal of `a` and its opposite in `b`, by their places
abbrev pub Opposes : List ℤ → ℕ → List ℤ → ℕ → Type 0
Opposes a p b q = slice_index_or b q (pos 0) ≡ opposite (slice_index_or a p (pos 0))

pub opposes-variable : (a b : List ℤ) (p q : ℕ) → Opposes a p b q → variable_at b q ≡ variable_at a p
opposes-variable a b p q e = ap variable_of e ∙ variable_of-opposite (slice_index_or a p (pos 0))

-- the clashes of the literals before i are at the pivot, and were found
abbrev pub Passed : List ℤ → List ℤ → ℕ → Bool → ℕ → Type 0
Passed a b pivot found i = (p q : ℕ) → p < i → q < length b → Opposes a p b q → (variable_at a p ≡ pivot) × (found ≡ true)

-- the literals of `a` from i on stand above those of `b` before j
abbrev pub IsAbove : List ℤ → List ℤ → ℕ → ℕ → Type 0
IsAbove a b i j = (p q : ℕ) → i ≤ p → p < length a → q < j → variable_at b q < variable_at a p

module _ (a b : List ℤ) (ordered_a : IsOrdered a) (ordered_b : IsOrdered b) (pivot : ℕ) (i j : ℕ) (in_a : i < length a) (in_b : j < length b) where
  -- a literal of `a` below what is left of `b` has no opposite
  pub passed-lower : (found : Bool) → Passed a b pivot found i → IsAbove a b i j → variable_at a i < variable_at b j → Passed a b pivot found (i + 1)
  passed-lower found passed above below p q hp hq e =
      let same : variable_at b q ≡ variable_at a p = opposes-variable a b p q e in
      let mono : j ≤ q → variable_at b j ≤ variable_at b q = λ h. variable_at-mono b j q ordered_b h hq in
      let low : q < j → variable_at b q < variable_at a i = λ h. above i q (omega arith) in_a h in
      let old : p < i → (variable_at a p ≡ pivot) × (found ≡ true) = λ h. passed p q h hq e in
      grind arith

  pub above-lower : IsAbove a b i j → IsAbove a b (i + 1) j
  above-lower above p q hp hq h = above p q (omega arith) hq h

  pub above-greater : IsAbove a b i j → variable_at b j < variable_at a i → IsAbove a b i (j + 1)
  above-greater above greater p q hp hq h =
      let mono : variable_at a i ≤ variable_at a p = variable_at-mono a i p ordered_a hp hq in
      let old : q < j → variable_at b q < variable_at a p = λ k. above p q hp hq k in
      grind arith

  pub above-same : IsAbove a b i j → variable_at b j ≡ variable_at a i → IsAbove a b (i + 1) (j + 1)
  above-same above same p q hp hq h =
      let mono : variable_at a i < variable_at a p = ordered_a i p (pos 0) (omega arith) hq in
      let old : q < j → variable_at b q < variable_at a p = λ k. above p q (omega arith) hq k in
      grind arith

  -- equal literals do not clash
  pub passed-equal : (found : Bool) → AreInRange a → Passed a b pivot found i → slice_index_or a i (pos 0) ≡ slice_index_or b j (pos 0) → Passed a b pivot found (i + 1)
  passed-equal found in_range passed equal p q hp hq e =
      let same : variable_at b q ≡ variable_at a p = opposes-variable a b p q e in
      let place : variable_at b q ≡ variable_at b j → q ≡ j = λ h. same_place b q j ordered_b hq in_b h in
      let here : p ≡ i → q ≡ j → ⊥ = λ h k. not_opposite_self (slice_index_or a i (pos 0)) (in_range i (pos 0) in_a).0 (equal ∙ rw (k, h) at e) in
      let equal_variable : variable_at a i ≡ variable_at b j = ap variable_of equal in
      let old : p < i → (variable_at a p ≡ pivot) × (found ≡ true) = λ h. passed p q h hq e in
      grind arith

  -- a clash at the pivot is found
  pub passed-pivot : (found : Bool) → Passed a b pivot found i → variable_at a i ≡ pivot → Passed a b pivot true (i + 1)
  passed-pivot found passed here p q hp hq e =
      let old : p < i → (variable_at a p ≡ pivot) × (found ≡ true) = λ h. passed p q h hq e in
      grind arith

-- two literals of one variable that are not equal clash
pub clashes_at_places : (a b : List ℤ) (p q : ℕ) → p < length a → q < length b → variable_at a p ≡ variable_at b q → slice_index_or a p (pos 0) ≢ slice_index_or b q (pos 0) → ClashesAt (variable_at a p) a b
clashes_at_places a b p q hp hq same differ =
    let l : ℤ = slice_index_or a p (pos 0) in
    let m : ℤ = slice_index_or b q (pos 0) in
    elim (same_or_opposite l m same) [
      | inl e ↦ absurd (differ e)
      | inr e ↦ (l, contains_at a p hp, subst (λ n. Contains b n) e (contains_at b q hq), refl)
    ]

-- every clash has its places
pub places_of_clash : (a b : List ℤ) (variable : ℕ) → ClashesAt variable a b → (p : ℕ) × (q : ℕ) × (p < length a) × (q < length b) × Opposes a p b q × (variable_at a p ≡ variable)
places_of_clash a b variable (l, in_a, in_b, is) =
    (in_a.0, in_b.0, in_a.1, in_b.1, read_at_place b (opposite l) in_b ∙ ap opposite (sym (read_at_place a l in_a)), ap variable_of (read_at_place a l in_a) ∙ is)

-- after the last literals the answer is whether a clash was found
pub answer_at_end : (a b : List ℤ) (pivot : ℕ) (found : Bool) (i j : ℕ) → Passed a b pivot found i → IsAbove a b i j → (i ≡ length a) ⊎ (j ≡ length b) → (found ≡ true → ClashesAt pivot a b) → (found ≡ true → ClashesOnlyAt pivot a b) × (ClashesOnlyAt pivot a b → found ≡ true)
answer_at_end a b pivot found i j passed above at_end witness = (
  λ e. record { here = witness e; nowhere_else = λ other clash. (at_clash other clash).0 },
  λ only. (at_clash pivot only.here).1,
) where
  at_clash : (other : ℕ) → ClashesAt other a b → (other ≡ pivot) × (found ≡ true)
  at_clash other clash =
      let w = places_of_clash a b other clash in
      let p : ℕ = w.0 in
      let q : ℕ = w.1 in
      let same : variable_at b q ≡ variable_at a p = opposes-variable a b p q w.4 in
      let old : p < i → (variable_at a p ≡ pivot) × (found ≡ true) = λ h. passed p q h w.3 w.4 in
      let late : i ≤ p → q < j → variable_at b q < variable_at a p = λ h k. above p q h w.2 k in
      let is : variable_at a p ≡ other = w.5 in
      let hp : p < length a = w.2 in
      let hq : q < length b = w.3 in
      grind arith
