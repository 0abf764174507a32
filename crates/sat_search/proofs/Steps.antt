-- The steps of a search, put together.
use Rattle.std.proofs.Common.{◌≡◌, inl, inr, ℕ, suc, ℤ, pos, negsuc, ◌<◌, ◌≤◌, ◌+◌, ◌-◌, ◌*◌, List, [], ◌∷◌, ◌++◌, length, take, slice_index, slice_index_or, length-append, append_assoc, refl, sym, ap, ◌∙◌, arith, subst, Bool, true, false, not}
use Rattle.std.specs.Prelude.{Contains, All, ◌↔◌}
use Rattle.std.proofs.Math.Seq.{get_or-append_seam, take-length}
use Rattle.std.proofs.lemmas.Bool.{cases_lt}
use Rattle.std.proofs.lemmas.List.{get_or_append_left, take-append-le, map-append}
use Rattle.std.proofs.lemmas.List.Elements.{All-push}
use Rattle.sat_search.specs.Found.{IsFound}
use Rattle.sat_search.specs.declared.found.Found.{Found}
use Rattle.sat_search.specs.declared.found.Found.TheVariants.{Satisfied, Refuted, Budget}
use Rattle.clause_db.specs.declared.clause.LogLine.{LogLine}
use Rattle.clause_db.specs.Assignment.{truth_under, SatisfiesClause, Satisfies}
use Rattle.clause_db.specs.Literal.{variable_of, opposite, IsOrdered}
use Rattle.clause_db.specs.Log.{results}
use Rattle.clause_db.specs.Propagation.{PropagationRefutes}
use Rattle.clause_db.proofs.Ordered.{at_member}
use Rattle.unit_propagation.specs.Places.{PlacesAreRight}
use Rattle.unit_propagation.specs.Quiet.{IsQuiet, IsQuietClause, HasReasons}
use Rattle.unit_propagation.specs.Status.{Extends, FitsVariables}
use Rattle.unit_propagation.proofs.Consistent.{consistent_from_places, IsConsistent}
use Rattle.unit_propagation.proofs.Complete.{refutes_nothing}
use Rattle.unit_propagation.proofs.Fits.{extends_length}
use Rattle.sat_search.specs.Learning.{IsSearching}
use Rattle.sat_search.proofs.Chain.{contains_take}

-- propagation keeps what a search keeps
pub searching_extended : (clauses : List (List ℤ)) (old new : List ℤ) (starts reasons reasons' : List ℕ) → IsSearching clauses old starts reasons → Extends old new → HasReasons clauses new starts reasons' → IsSearching clauses new starts reasons'
searching_extended clauses old new starts reasons reasons' searching extends has = record {
  has_reasons = has;
  quiet_before = λ k h. subst (λ t. IsQuiet t clauses) (sym (ap (take (slice_index starts k)) extends.1 ∙ take-append-le (slice_index starts k) old extends.0 (let s = searching.started k h in omega (arith, s)))) (searching.quiet_before k h);
  started = λ k h. let s = searching.started k h in let g = extends_length old new extends in omega (arith, s, g);
}

-- a line more
pub results_push : (lines : List LogLine) (line : LogLine) (clauses : List (List ℤ)) → clauses ++ results (lines ++ line ∷ []) ≡ (clauses ++ results lines) ++ line.result.literals.items ∷ []
results_push lines line clauses = ap (λ r. clauses ++ r) (map-append (λ (x : LogLine). x.result.literals.items) lines (line ∷ [])) ∙ sym (append_assoc clauses (results lines) (line.result.literals.items ∷ []))

-- what holds of each line over the lines before it, with one line more
pub each_push : (P : List (List ℤ) → LogLine → Type 0) (clauses : List (List ℤ)) (lines : List LogLine) (line : LogLine) → ((k : ℕ) (d : LogLine) → k < length lines → P (clauses ++ results (take k lines)) (slice_index_or lines k d)) → P (clauses ++ results lines) line → (k : ℕ) (d : LogLine) → k < length (lines ++ line ∷ []) → P (clauses ++ results (take k (lines ++ line ∷ []))) (slice_index_or (lines ++ line ∷ []) k d)
each_push P clauses lines line each here k d h =
    elim (cases_lt k (length lines)) [
      | inl g ↦ subst (λ x. P (clauses ++ results (take k (lines ++ line ∷ []))) x) (sym (get_or_append_left lines (line ∷ []) d k g))
          (subst (λ ls. P (clauses ++ results ls) (slice_index_or lines k d)) (sym (take-append-le k lines (line ∷ []) (omega (arith, g)))) (each k d g))
      | inr g ↦
          let e : k ≡ length lines = (let m = length-append lines (line ∷ []) in omega (arith, m, g, h)) in
          subst (λ n. P (clauses ++ results (take n (lines ++ line ∷ []))) (slice_index_or (lines ++ line ∷ []) n d)) (sym e)
          (subst (λ x. P (clauses ++ results (take (length lines) (lines ++ line ∷ []))) x) (sym (get_or-append_seam lines line [] d))
          (subst (λ ls. P (clauses ++ results ls) line) (sym (take-append-le (length lines) lines (line ∷ []) (omega arith) ∙ take-length lines)) here))
    ]

-- where propagation was complete before a decision, it does not refute the first of the clauses
pub not_refuted : (clauses more : List (List ℤ)) (trail : List ℤ) (places : List ℕ) → PlacesAreRight trail places → (start : ℕ) → IsQuiet (take start trail) (clauses ++ more) → PropagationRefutes clauses [] → ⊥
not_refuted clauses more trail places right start quiet =
    refutes_nothing clauses (take start trail) [] consistent (λ k d h. subst (IsQuietClause (take start trail)) (get_or_append_left clauses more d k h) (quiet k d (let g = length-append clauses more in omega (arith, g, h)))) (λ l w. absurd (omega (arith, w.1))) where
      consistent : IsConsistent (take start trail)
      consistent l a b = consistent_from_places trail places right l (contains_take start trail l a) (contains_take start trail (opposite l) b)

-- a learnt clause fits as the others do
pub fits_push : (n : ℕ) (clauses : List (List ℤ)) (learnt : List ℤ) → FitsVariables n clauses → IsOrdered learnt → All (λ l. (0 < variable_of l) × (variable_of l < n)) learnt → FitsVariables n (clauses ++ learnt ∷ [])
fits_push n clauses learnt fits ordered range = All-push (λ c. IsOrdered c × All (λ l. (0 < variable_of l) × (variable_of l < n)) c) clauses learnt fits (ordered, range)

-- a quiet trail without free variables gives an assignment
pub assignment_satisfies : (clauses : List (List ℤ)) (trail : List ℤ) (places : List ℕ) → PlacesAreRight trail places → IsQuiet trail clauses → FitsVariables (length places) clauses → ((v : ℕ) → 0 < v → v < length places → 0 < slice_index places v) → (assignment : ℕ → Bool) → ((v : ℕ) → 0 < v → v < length places → (assignment v ≡ true) ↔ Contains trail (pos v)) → Satisfies assignment clauses
assignment_satisfies clauses trail places right quiet fits none_free assignment says k d h = of_quiet (quiet k d h) where
  clause : List ℤ
  clause = slice_index_or clauses k d

  is_true : (l : ℤ) → 0 < variable_of l → variable_of l < length places → Contains trail l → truth_under assignment l ≡ true
  is_true (pos n) above within w = (says n above within).1 w
  is_true (negsuc n) above within w = not_true (assignment (suc n)) (λ e. consistent_from_places trail places right (pos (suc n)) ((says (suc n) above within).0 e) w) where
    not_true : (b : Bool) → (b ≡ true → ⊥) → not b ≡ true
    not_true true never = absurd (never refl)
    not_true false never = refl

  of_quiet : IsQuietClause trail (slice_index_or clauses k d) → SatisfiesClause assignment (slice_index_or clauses k d)
  of_quiet (inl w) =
      let range = at_member (λ l. (0 < variable_of l) × (variable_of l < length places)) (slice_index_or clauses k d) w.0 (fits k d h).1 w.1 in
      (w.1.0, w.0, w.1.1, w.1.2, is_true w.0 range.0 range.1 w.2)
  of_quiet (inr w) =
      let range = at_member (λ l. (0 < variable_of l) × (variable_of l < length places)) (slice_index_or clauses k d) w.0 (fits k d h).1 w.2 in
      let place = none_free (variable_of w.0) range.0 range.1 in
      let there = right.of_variable (variable_of w.0) range.1 place in
      absurd (w.5 (slice_index places (variable_of w.0) - 1) (omega (arith, there.0, place)) there.1)

-- the measure of a conflict
pub fewer_conflicts_left : (limit lines n t t' : ℕ) → lines < limit → t ≤ n → (limit - (lines + 1)) * (n + 1) + (n - t') < (limit - lines) * (n + 1) + (n - t)
fewer_conflicts_left limit lines n t t' below fits =
    let a : limit - lines ≡ (limit - (lines + 1)) + 1 = omega arith in
    rw a (grind arith)

-- what is found over more variables is found over fewer
pub found_over_fewer : (clauses : List (List ℤ)) (fewer variables limit : ℕ) (found : Found) → fewer ≤ variables → IsFound clauses variables limit found → IsFound clauses fewer limit found
found_over_fewer clauses fewer variables limit (Satisfied values conflicts) less w = (w.0, omega (arith, less, w.1), w.2)
found_over_fewer clauses fewer variables limit (Refuted log) less w = w
found_over_fewer clauses fewer variables limit (Budget log) less w = w

-- a bound may be larger
pub fits_larger : (small large : ℕ) (clauses : List (List ℤ)) → small ≤ large → FitsVariables small clauses → FitsVariables large clauses
fits_larger small large clauses less fits k d h =
    let one = fits k d h in
    (one.0, λ j e w. let range = one.1 j e w in (range.0, omega (arith, range.1, less)))
