-- Where the literals of a false clause stand among the decisions.
use Rattle.std.proofs.Common.{◌≡◌, inl, inr, ℕ, ℤ, pos, ◌<◌, ◌≤◌, ◌+◌, ◌-◌, List, [], ◌∷◌, length, slice_index_or, refl, sym, ap, ◌∙◌, arith, subst}
use Rattle.std.specs.Prelude.{Contains, All}
use Rattle.std.proofs.lemmas.Bool.{cases_lt}
use Rattle.clause_db.specs.Literal.{variable_of, opposite, IsOrdered}
use Rattle.clause_db.proofs.Ordered.{variable_of-opposite, opposite-opposite, contains_at, read_at_place}
use Rattle.unit_propagation.specs.Places.{literal_at, PlacesAreRight}
use Rattle.unit_propagation.specs.Quiet.{IsFalseClause}
use Rattle.sat_search.specs.Latest.{IsLatest, place_in}
use Rattle.sat_search.proofs.Resolving.{place_of_false}

module _ (trail : List ℤ) (places : List ℕ) (right : PlacesAreRight trail places) where
  pub fits_false : (clause : List ℤ) → IsFalseClause trail clause → All (λ l. variable_of l < length places) clause
  fits_false clause all_false k d h = of_literal (slice_index_or clause k d) (all_false k d h) where
    of_literal : (l : ℤ) → Contains trail (opposite l) → variable_of l < length places
    of_literal l w = subst (λ n. n < length places) (ap variable_of (read_at_place trail (opposite l) w) ∙ variable_of-opposite l) (right.of_literal w.0 w.1).1

  -- a false literal has a place above 0
  pub place_above : (clause : List ℤ) → IsFalseClause trail clause → (k : ℕ) → k < length clause → (q : ℕ) × (q < length trail) × (literal_at trail q ≡ opposite (slice_index_or clause k (pos 0))) × (place_in places clause k ≡ q + 1)
  place_above clause all_false k h =
      let w = all_false k (pos 0) h in
      let is = read_at_place trail (opposite (slice_index_or clause k (pos 0))) w in
      (w.0, w.1, is, place_of_false trail places right (slice_index_or clause k (pos 0)) w.0 w.1 is)

  module _ (clause : List ℤ) (ordered : IsOrdered clause) (all_false : IsFalseClause trail clause) (last second : ℕ) (latest : IsLatest places clause (length clause) last second) where
    pub last_within : last ≤ length trail
    last_within = elim (cases_lt 0 last) [
      | inl some ↦ let w = latest.has_last some in let q = place_above clause all_false w.0 w.1 in omega (arith, w.2, q.3, q.1)
      | inr none ↦ omega arith
    ]

    pub has_last_literal : 0 < last → Contains clause (opposite (literal_at trail (last - 1)))
    has_last_literal some =
        let w = latest.has_last some in
        let q = place_above clause all_false w.0 w.1 in
        let same : q.0 ≡ last - 1 = omega (arith, w.2, q.3) in
        subst (Contains clause) (sym (opposite-opposite _) ∙ ap opposite (sym q.2 ∙ ap (literal_at trail) same)) (contains_at clause w.0 w.1)

    -- nothing is false where there is no place
    pub empty_at_zero : last ≡ 0 → clause ≡ []
    empty_at_zero e = is_empty clause (λ h. absurd (let q = place_above clause all_false 0 h in let low = latest.none_later 0 h in omega (arith, q.3, low, e))) where
      is_empty : (xs : List ℤ) → (0 < length xs → ⊥) → xs ≡ []
      is_empty [] h = refl
      is_empty (x ∷ xs) h = absurd (h (omega arith))
