-- Which literals of a false clause stand on the trail behind a place.
use Rattle.std.proofs.Common.{◌≡◌, ◌≢◌, inl, inr, ℕ, ℤ, pos, ◌<◌, ◌≤◌, ◌+◌, ◌-◌, List, [], ◌∷◌, length, length-take, get_or-take, take, slice_index, slice_index_or, refl, sym, ap, ◌∙◌, arith, subst}
use Rattle.std.specs.Prelude.{Contains, All}
use Rattle.std.proofs.lemmas.Bool.{cases_lt, cases_eq}
use Rattle.std.proofs.lemmas.List.{get_or_default}
use Rattle.clause_db.specs.Literal.{variable_of, opposite, IsOrdered}
use Rattle.clause_db.specs.Resolution.{IsResolvent}
use Rattle.clause_db.proofs.Ordered.{variable_of-opposite, opposite-opposite, contains_at, read_at_place, at_member, same_place}
use Rattle.chain_resolution.specs.Marked.{Mentions}
use Rattle.unit_propagation.specs.Places.{literal_at, PlacesAreRight, StartsAreRight}
use Rattle.unit_propagation.specs.Truth.{IsFree}
use Rattle.unit_propagation.specs.Quiet.{IsFalseClause, IsQuiet, IsQuietClause, IsReason, HasReasons}
use Rattle.unit_propagation.proofs.Consistent.{cases_int, consistent_from_places, free_not_false}
use Rattle.sat_search.specs.Latest.{IsLatest, IsBehind, IsOneBehind}
use Rattle.sat_search.specs.Learning.{HasReasonAt, last_start}
use Rattle.sat_search.specs.Parts.{IsPartFrom}
use Rattle.sat_search.proofs.Resolving.{place_of_false}
use Rattle.sat_search.proofs.Chain.{contains_take, take_contains}

module _ (trail : List ℤ) (places : List ℕ) (right : PlacesAreRight trail places) where
  -- where a literal became false
  where_false : (clause : List ℤ) → IsFalseClause trail clause → (l : ℤ) → Contains clause l → (q : ℕ) × (q < length trail) × (literal_at trail q ≡ opposite l) × (slice_index places (variable_of l) ≡ q + 1)
  where_false clause all_false l w =
      let f = at_member (λ m. Contains trail (opposite m)) clause l all_false w in
      let is = read_at_place trail (opposite l) f in
      (f.0, f.1, is, place_of_false trail places right l f.0 f.1 is)

  -- a false clause that has the variable of a true literal has the literal's opposite
  pub opposite_of_mentioned : (clause : List ℤ) → IsFalseClause trail clause → (p : ℕ) → p < length trail → Mentions clause (variable_of (literal_at trail p)) → Contains clause (opposite (literal_at trail p))
  opposite_of_mentioned clause all_false p within (l, w, is) =
      let q = where_false clause all_false l w in
      let place = (right.of_literal p within).2 in
      let same : q.0 ≡ p = let f = ap (slice_index places) is in let g = q.3 in omega (arith, f, g, place) in
      subst (Contains clause) (sym (opposite-opposite l) ∙ ap opposite (sym q.2 ∙ ap (literal_at trail) same)) w

  -- no literal is later than the latest place that was found
  pub none_later_from : (clause : List ℤ) (from last : ℕ) → IsFalseClause trail clause → All (λ l. slice_index places (variable_of l) ≤ from) clause → ((p : ℕ) → last ≤ p → p < from → Mentions clause (variable_of (literal_at trail p)) → ⊥) → All (λ l. slice_index places (variable_of l) ≤ last) clause
  none_later_from clause from last all_false earlier none k d h =
      let l : ℤ = slice_index_or clause k d in
      let w : Contains clause l = (k, h, get_or_default clause k l d h) in
      let q = where_false clause all_false l w in
      let place = q.3 in
      let low = earlier k d h in
      elim (cases_lt q.0 last) [
        | inl g ↦ omega (arith, g, place)
        | inr g ↦ absurd (none q.0 g (omega (arith, low, place)) (l, w, sym (variable_of-opposite l) ∙ sym (ap variable_of q.2)))
      ]

  pub none_behind_trail : (clause : List ℤ) → IsFalseClause trail clause → All (λ l. slice_index places (variable_of l) ≤ length trail) clause
  none_behind_trail clause all_false k d h =
      let l : ℤ = slice_index_or clause k d in
      let q = where_false clause all_false l (k, h, get_or_default clause k l d h) in
      let place = q.3 in
      let within = q.1 in
      omega (arith, place, within)

  -- a false clause that is among the clauses has a literal behind a quiet prefix
  pub behind_quiet : (clauses : List (List ℤ)) (clause : List ℤ) (start : ℕ) → IsQuiet (take start trail) clauses → Contains clauses clause → IsFalseClause trail clause → IsBehind places start clause
  behind_quiet clauses clause start quiet in_clauses all_false = from_quiet (subst (IsQuietClause (take start trail)) in_clauses.2 (quiet in_clauses.0 clause in_clauses.1)) where
    from_quiet : IsQuietClause (take start trail) clause → IsBehind places start clause
    from_quiet (inl w) = absurd (consistent_from_places trail places right w.0 (contains_take start trail w.0 w.2) (at_member (λ l. Contains trail (opposite l)) clause w.0 all_false w.1))
    from_quiet (inr w) =
        let q = where_false clause all_false w.0 w.2 in
        let place = q.3 in
        elim (cases_lt q.0 start) [
          | inl h ↦ absurd (free_not_false (take start trail) w.0 w.5 (take_contains start trail q.0 (opposite w.0) h q.1 q.2))
          | inr h ↦ (w.0, w.2, omega (arith, h, place))
        ]

  -- a reason that is among the clauses has another literal behind a quiet prefix
  module _ (clauses : List (List ℤ)) (other : List ℤ) (start last : ℕ) (quiet : IsQuiet (take start trail) clauses) (in_clauses : Contains clauses other) (within : last ≤ length trail) (above : start + 1 < last) (reason : IsReason trail (last - 1) other) where
    pivot : ℤ
    pivot = literal_at trail (last - 1)

    from_free : (l : ℤ) → Contains other l → l ≢ literal_at trail (last - 1) → IsFree (take start trail) l → (m : ℤ) × Contains other m × (start < slice_index places (variable_of m)) × (slice_index places (variable_of m) < last)
    from_free l w ne free =
        let f = reason.others_false l w ne in
        let place = place_of_false trail places right l f.0 f.2 f.3 in
        let low = f.1 in
        elim (cases_lt f.0 start) [
          | inl h ↦ absurd (free_not_false (take start trail) l free (take_contains start trail f.0 (opposite l) h f.2 f.3))
          | inr h ↦ (l, w, omega (arith, h, place), omega (arith, low, place))
        ]

    other_behind : (m : ℤ) × Contains other m × (start < slice_index places (variable_of m)) × (slice_index places (variable_of m) < last)
    other_behind = from_quiet (subst (IsQuietClause (take start trail)) in_clauses.2 (quiet in_clauses.0 other in_clauses.1)) where
      from_quiet : IsQuietClause (take start trail) other → (m : ℤ) × Contains other m × (start < slice_index places (variable_of m)) × (slice_index places (variable_of m) < last)
      from_quiet (inl w) = elim (cases_int w.0 (literal_at trail (last - 1))) [
        | inr ne ↦
            let f = reason.others_false w.0 w.1 ne in
            absurd (consistent_from_places trail places right w.0 (contains_take start trail w.0 w.2) (subst (Contains trail) f.3 (contains_at trail f.0 f.2)))
        | inl e ↦ absurd (
            let there = w.2 in
            let low : there.0 < start = let h = there.1 in let g = length-take start trail in omega (arith, g, h) in
            let in_trail : there.0 < length trail = let h = there.1 in let g = length-take start trail in omega (arith, g, h) in
            let here : literal_at trail there.0 ≡ literal_at trail (last - 1) = sym (get_or-take start trail there.0 (pos 0) low) ∙ read_at_place (take start trail) w.0 there ∙ e in
            let a = (right.of_literal there.0 in_trail).2 in
            let b = (right.of_literal (last - 1) (omega (arith, within, above))).2 in
            let same = ap (λ m. slice_index places (variable_of m)) here in
            omega (arith, a, b, same, low, above))
      ]
      from_quiet (inr w) = elim (cases_int w.0 (literal_at trail (last - 1))) [
        | inr ne ↦ from_free w.0 w.2 ne w.5
        | inl e ↦ from_free w.1 w.3 (λ f. w.4 (e ∙ sym f)) w.6
      ]

    pub resolvent_behind : (current new : List ℤ) → IsResolvent (variable_of (literal_at trail (last - 1))) current other new → IsBehind places start new
    resolvent_behind current new resolvent =
        let m = other_behind in
        let place = (right.of_literal (last - 1) (omega (arith, within, above))).2 in
        let away : variable_of m.0 ≢ variable_of (literal_at trail (last - 1)) = λ e. absurd (let f = ap (slice_index places) e in let g = m.3 in omega (arith, f, g, place, above)) in
        (m.0, at_member (λ l. variable_of l ≢ variable_of (literal_at trail (last - 1)) → Contains new l) other m.0 resolvent.keeps_second m.1 away, m.2)

  -- the literals behind a place are one
  pub one_behind_at : (clause : List ℤ) (start last : ℕ) → IsFalseClause trail clause → IsBehind places start clause → ((l : ℤ) → Contains clause l → start < slice_index places (variable_of l) → slice_index places (variable_of l) ≡ last) → IsOneBehind places start clause
  one_behind_at clause start last all_false behind at_last = record {
    one = behind;
    no_other = λ l m wl wm bl bm.
        let q = where_false clause all_false l wl in
        let r = where_false clause all_false m wm in
        let pl = at_last l wl bl in
        let pm = at_last m wm bm in
        let same : q.0 ≡ r.0 = let a = q.3 in let b = r.3 in omega (arith, a, b, pl, pm) in
        sym (opposite-opposite l) ∙ ap opposite (sym q.2 ∙ ap (literal_at trail) same ∙ r.2) ∙ opposite-opposite m;
  }

  -- where none but the last one stands behind a place
  pub alone_at_last : (clause : List ℤ) (start last : ℕ) → IsFalseClause trail clause → All (λ l. slice_index places (variable_of l) ≤ last) clause → ((p : ℕ) → start + 1 ≤ p + 1 → p + 1 < last → Mentions clause (variable_of (literal_at trail p)) → ⊥) → (l : ℤ) → Contains clause l → start < slice_index places (variable_of l) → slice_index places (variable_of l) ≡ last
  alone_at_last clause start last all_false none_later alone l w behind =
      let q = where_false clause all_false l w in
      let place = q.3 in
      let low = at_member (λ m. slice_index places (variable_of m) ≤ last) clause l none_later w in
      elim (cases_lt (q.0 + 1) last) [
        | inr h ↦ omega (arith, h, place, low)
        | inl h ↦ absurd (alone q.0 (omega (arith, place, behind)) h (l, w, sym (variable_of-opposite l) ∙ sym (ap variable_of q.2)))
      ]

  -- nothing is false where there is no place
  pub empty_before_trail : (clause : List ℤ) → IsFalseClause trail clause → All (λ l. slice_index places (variable_of l) ≤ 0) clause → clause ≡ []
  empty_before_trail [] all_false none_later = refl
  empty_before_trail (x ∷ xs) all_false none_later = absurd (
      let q = where_false (x ∷ xs) all_false x (0, omega arith, refl) in
      let place = q.3 in
      let low = none_later 0 x (omega arith) in
      omega (arith, place, low))

  -- a literal behind the last decision has a reason
  pub reason_of_late : (clauses : List (List ℤ)) (starts reasons : List ℕ) (bound last : ℕ) → HasReasons clauses trail starts reasons → StartsAreRight starts (length trail) → (0 < length starts → bound ≡ last_start starts + 1) → bound < last → last ≤ length trail → HasReasonAt clauses trail reasons (last - 1)
  reason_of_late clauses starts reasons bound last has starts_right is above within =
      elim (has (last - 1) (omega (arith, above, within))) [
        | inr r ↦ r
        | inl w ↦ absurd (
            let at : slice_index starts w.0 ≡ last - 1 = get_or_default starts w.0 0 (last - 1) w.1 ∙ w.2 in
            let there : 0 < length starts = let h = w.1 in omega (arith, h) in
            let up_to : slice_index starts w.0 ≤ slice_index starts (length starts - 1) = elim (cases_eq w.0 (length starts - 1)) [
              | inl e ↦ let f = ap (slice_index starts) e in omega (arith, f)
              | inr ne ↦ let h = w.1 in let f = starts_right.increasing w.0 (length starts - 1) (omega (arith, h, ne)) (omega (arith, there)) in omega (arith, f)
            ] in
            let b = is there in
            omega (arith, at, up_to, b, above))
      ]

-- one literal alone stays behind a place in a part of a clause
module _ (places : List ℕ) (long short : List ℤ) (bound start last second : ℕ) (ordered : IsOrdered short) (latest : IsLatest places short (length short) last second) (is_part : IsPartFrom places bound long short) (is : bound ≡ start + 1) (one : IsOneBehind places start long) where
  pub still_behind : start < last
  still_behind =
      let l : ℤ = one.one.0 in
      let late = one.one.2 in
      let there = is_part.kept l one.one.1 (omega (arith, is, late)) in
      let low = latest.none_later there.0 there.1 in
      let same = ap (λ m. slice_index places (variable_of m)) (read_at_place short l there) in
      omega (arith, low, same, late)

  pub still_before : second ≤ start
  still_before = elim (cases_lt start second) [
    | inr h ↦ h
    | inl h ↦ absurd (
        let w = latest.has_second (omega (arith, h)) in
        let order = latest.in_order in
        let l : ℤ = slice_index_or short w.0 (pos 0) in
        let m : ℤ = slice_index_or short w.1 (pos 0) in
        let pl = w.5 in
        let pm = w.6 in
        let same : l ≡ m = one.no_other l m (is_part.part l (contains_at short w.0 w.2)) (is_part.part m (contains_at short w.1 w.3)) (omega (arith, pl, h)) (omega (arith, pm, h, order)) in
        w.4 (same_place short w.0 w.1 ordered w.2 w.3 (ap variable_of same)))
  ]
