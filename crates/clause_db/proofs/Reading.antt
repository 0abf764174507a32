-- Literals that are read from the left, and the largest variable of some clauses.
use Rattle.std.proofs.Common.{◌≡◌, inl, inr, ℕ, ℤ, pos, ◌<◌, ◌≤◌, ◌+◌, ◌-◌, ◌^◌, List, [], length, slice_index_or, refl, arith}
use Rattle.std.specs.Prelude.{All, Any}
use Rattle.std.proofs.lemmas.List.{get_or_default, get_or-map}
use Rattle.std.proofs.lemmas.Bool.{cases_lt}
use Rattle.clause_db.specs.declared.clause.Clause.{Clause}
use Rattle.clause_db.specs.Literal.{variable_of, IsOrdered, AreInRange}
use Rattle.clause_db.specs.Log.{literal_lists}
use Rattle.clause_db.proofs.Ordered.{variable_at, variable_at-mono}

-- the literals before a place are in order and in range, and the last of them has this variable
pub record IsReadTo (xs : List ℤ) (place last : ℕ) : Type 0 where
  pub each : (p : ℕ) → p < place → (0 < variable_at xs p) × (variable_at xs p ≤ last) × (variable_at xs p < 2 ^ 63)
  pub increasing : (p q : ℕ) → p < q → q < place → variable_at xs p < variable_at xs q
  pub attained : 0 < last → (p : ℕ) × (p < place) × (variable_at xs p ≡ last)

pub nothing_read : (xs : List ℤ) → IsReadTo xs 0 0
nothing_read xs = record { each = λ p h. absurd (omega arith); increasing = λ p q a b. absurd (omega arith); attained = λ h. absurd (omega arith) }

module _ (xs : List ℤ) (place last : ℕ) (read : IsReadTo xs place last) where
  pub one_more : last < variable_at xs place → variable_at xs place < 2 ^ 63 → IsReadTo xs (place + 1) (variable_at xs place)
  one_more above fits = record {
    each = λ p h. elim (cases_lt p place) [
      | inl k ↦ let e = read.each p k in (e.0, omega (arith, e.1, above), e.2)
      | inr k ↦ let at_end : p ≡ place = omega arith in rw at_end (omega arith, omega arith, fits)
    ];
    increasing = λ p q a b. elim (cases_lt q place) [
      | inl k ↦ read.increasing p q a k
      | inr k ↦ let at_end : q ≡ place = omega arith in let e = read.each p (omega arith) in rw at_end (omega (arith, e.1, above))
    ];
    attained = λ h. (place, omega arith, refl);
  }

  pub all_read : place ≡ length xs → IsOrdered xs × AreInRange xs
  all_read end = (
    (λ p q d a b. let hq : q < length xs = b in let hp : p < length xs = omega (arith, a, b) in
        rw (get_or_default xs p d (pos 0) hp, get_or_default xs q d (pos 0) hq) (read.increasing p q a (omega (arith, b, end)))),
    (λ p d h. rw (get_or_default xs p d (pos 0) h) (let e = read.each p (omega (arith, h, end)) in (e.0, e.2))),
  )

  pub not_above : place < length xs → variable_at xs place ≤ last → IsOrdered xs × AreInRange xs → ⊥
  not_above within low good =
      elim (cases_lt 0 last) [
        | inl h ↦ let w = read.attained h in let below = good.0 w.0 place (pos 0) w.1 within in omega (arith, w.2, below, low)
        | inr h ↦ let positive = (good.1 place (pos 0) within).0 in omega (arith, positive, low, h)
      ]

  pub not_too_large : place < length xs → 2 ^ 63 ≤ variable_at xs place → IsOrdered xs × AreInRange xs → ⊥
  not_too_large within high good = let fits = (good.1 place (pos 0) within).1 in omega (arith, fits, high)

-- the last literal of a clause has its largest variable
pub last_is_largest : (xs : List ℤ) → IsOrdered xs → 0 < length xs → All (λ l. variable_of l ≤ variable_at xs (length xs - 1)) xs
last_is_largest xs ordered some k d h =
    rw (get_or_default xs k d (pos 0) h) (variable_at-mono xs k (length xs - 1) ordered (omega (arith, h)) (omega (arith, some)))

-- the largest variable of the clauses before a place
pub record IsLargestTo (clauses : List (List ℤ)) (place largest : ℕ) : Type 0 where
  pub within : (p : ℕ) → p < place → All (λ l. variable_of l ≤ largest) (slice_index_or clauses p [])
  pub stands : 0 < largest → (p : ℕ) × (p < place) × Any (λ l. variable_of l ≡ largest) (slice_index_or clauses p [])

pub none_looked_at : (clauses : List (List ℤ)) → IsLargestTo clauses 0 0
none_looked_at clauses = record { within = λ p h. absurd (omega arith); stands = λ h. absurd (omega arith) }

module _ (clauses : List (List ℤ)) (place largest here : ℕ) (old : IsLargestTo clauses place largest) (within : All (λ l. variable_of l ≤ here) (slice_index_or clauses place [])) (stands : 0 < here → Any (λ l. variable_of l ≡ here) (slice_index_or clauses place [])) where
  pub larger_here : largest < here → IsLargestTo clauses (place + 1) here
  larger_here above = record {
    within = λ p h k d w. elim (cases_lt p place) [
      | inl g ↦ let low = old.within p g k d w in omega (arith, low, above)
      | inr g ↦ let e : p ≡ place = omega arith in within_at p e k d w
    ];
    stands = λ h. (place, omega arith, stands h);
  } where
    within_at : (p : ℕ) → p ≡ place → All (λ l. variable_of l ≤ here) (slice_index_or clauses p [])
    within_at p e = rw e within

  pub not_larger_here : here ≤ largest → IsLargestTo clauses (place + 1) largest
  not_larger_here low = record {
    within = λ p h k d w. elim (cases_lt p place) [
      | inl g ↦ old.within p g k d w
      | inr g ↦ let e : p ≡ place = omega arith in let at_here = within_at p e k d w in omega (arith, at_here, low)
    ];
    stands = λ h. let w = old.stands h in (w.0, omega (arith, w.1), w.2);
  } where
    within_at : (p : ℕ) → p ≡ place → All (λ l. variable_of l ≤ here) (slice_index_or clauses p [])
    within_at p e = rw e within

-- the clauses have all been looked at
pub largest_of_all : (clauses : List (List ℤ)) (place largest : ℕ) → length clauses ≡ place → IsLargestTo clauses place largest → All (λ c. All (λ l. variable_of l ≤ largest) c) clauses
largest_of_all clauses place largest end whole k d h = rw (get_or_default clauses k d [] h) (whole.within k (omega (arith, h, end)))

pub largest_stands : (clauses : List (List ℤ)) (place largest : ℕ) → length clauses ≡ place → IsLargestTo clauses place largest → 0 < largest → Any (λ c. Any (λ l. variable_of l ≡ largest) c) clauses
largest_stands clauses place largest end whole some = let w = whole.stands some in at_place w.0 (omega (arith, w.1, end)) w.2 where
  at_place : (p : ℕ) → p < length clauses → Any (λ l. variable_of l ≡ largest) (slice_index_or clauses p []) → Any (λ c. Any (λ l. variable_of l ≡ largest) c) clauses
  at_place p within any = (p, slice_index_or clauses p [], within, get_or_default clauses p _ [] within, any)

-- the literals of the clause at a place
pub literals_at : (clauses : List Clause) (k : ℕ) (clause : Clause) → k < length clauses → slice_index_or (literal_lists clauses) k [] ≡ (slice_index_or clauses k clause).literals.items
literals_at clauses k clause h = get_or-map (λ (c : Clause). c.literals.items) clauses k clause [] h
