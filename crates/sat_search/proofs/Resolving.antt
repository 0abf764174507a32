-- A false clause, resolved with the reason of the literal that made it so last.
use Rattle.std.proofs.Common.{◌≡◌, ◌≢◌, ◌⊎◌, inl, inr, ℕ, ℤ, ◌<◌, ◌≤◌, ◌+◌, ◌-◌, List, length, slice_index, slice_index_or, sym, ap, ◌∙◌, arith, subst}
use Rattle.std.specs.Prelude.{Contains, All}
use Rattle.clause_db.specs.Literal.{variable_of, opposite}
use Rattle.clause_db.specs.Resolution.{ClashesOnlyAt, IsResolvent}
use Rattle.clause_db.proofs.Ordered.{variable_of-opposite, opposite-opposite, contains_at, read_at_place, at_member}
use Rattle.unit_propagation.specs.Places.{literal_at, PlacesAreRight}
use Rattle.unit_propagation.specs.Quiet.{IsFalseBefore, IsReason, IsFalseClause}
use Rattle.unit_propagation.proofs.Consistent.{cases_int, consistent_from_places}

module _ (trail : List ℤ) (places : List ℕ) (right : PlacesAreRight trail places) where
  -- a variable that the trail makes false has its place
  pub place_of_false : (l : ℤ) (q : ℕ) → q < length trail → literal_at trail q ≡ opposite l → slice_index places (variable_of l) ≡ q + 1
  place_of_false l q h is = ap (slice_index places) (sym (ap variable_of is ∙ variable_of-opposite l)) ∙ (right.of_literal q h).2

  -- the literal that is falsified before a place is so
  pub contains_false_before : (place : ℕ) (l : ℤ) → IsFalseBefore trail place l → Contains trail (opposite l)
  contains_false_before place l (q, before, within, is) = subst (Contains trail) is (contains_at trail q within)

module _ (trail : List ℤ) (places : List ℕ) (right : PlacesAreRight trail places) (current other new : List ℤ) (last : ℕ) (positive : 0 < last) (within : last ≤ length trail) (all_false : IsFalseClause trail current) (reason : IsReason trail (last - 1) other) where
  pub clash_at_last : Contains current (opposite (literal_at trail (last - 1))) → ClashesOnlyAt (variable_of (literal_at trail (last - 1))) current other
  clash_at_last has_last = record {
    here = (opposite (literal_at trail (last - 1)), has_last, subst (Contains other) (sym (opposite-opposite _)) reason.has, variable_of-opposite _);
    nowhere_else = λ v clash. elim (cases_int (opposite clash.0) (literal_at trail (last - 1))) [
      | inl e ↦ sym clash.3 ∙ sym (variable_of-opposite clash.0) ∙ ap variable_of e
      | inr ne ↦ absurd (consistent_from_places trail places right clash.0
          (subst (Contains trail) (opposite-opposite clash.0) (contains_false_before trail places right (last - 1) (opposite clash.0) (reason.others_false (opposite clash.0) clash.2 ne)))
          (at_member (λ l. Contains trail (opposite l)) current clash.0 all_false clash.1))
    ];
  }

  apart : (l : ℤ) → variable_of l ≢ variable_of (literal_at trail (last - 1)) → l ≢ literal_at trail (last - 1)
  apart l ne e = ne (ap variable_of e)

  pub resolvent_false : IsResolvent (variable_of (literal_at trail (last - 1))) current other new → IsFalseClause trail new
  resolvent_false resolvent k d h =
      let w = resolvent.from_either k d h in
      elim w.0 [
        | inl in_current ↦ at_member (λ l. Contains trail (opposite l)) current _ all_false in_current
        | inr in_other ↦ contains_false_before trail places right (last - 1) _ (reason.others_false _ in_other (apart _ w.1))
      ]

  pub resolvent_earlier : All (λ l. slice_index places (variable_of l) ≤ last) current → IsResolvent (variable_of (literal_at trail (last - 1))) current other new → All (λ l. slice_index places (variable_of l) < last) new
  resolvent_earlier none_later resolvent k d h = of_member (slice_index_or new k d) (resolvent.from_either k d h) where
    of_member : (l : ℤ) → (Contains current l ⊎ Contains other l) × (variable_of l ≢ variable_of (literal_at trail (last - 1))) → slice_index places (variable_of l) < last
    of_member l (inl in_current, away) =
        let low : slice_index places (variable_of l) ≤ last = at_member (λ m. slice_index places (variable_of m) ≤ last) current l none_later in_current in
        let false = at_member (λ m. Contains trail (opposite m)) current l all_false in_current in
        let place = place_of_false trail places right l false.0 false.1 (read_at_place trail (opposite l) false) in
        let other_place : false.0 ≢ last - 1 = λ e. away (sym (variable_of-opposite l) ∙ sym (ap variable_of (read_at_place trail (opposite l) false)) ∙ ap (λ q. variable_of (literal_at trail q)) e) in
        omega (arith, low, place, other_place)
    of_member l (inr in_other, away) =
        let false = reason.others_false l in_other (apart l away) in
        let place = place_of_false trail places right l false.0 false.2 false.3 in
        omega (arith, place, false.1)
