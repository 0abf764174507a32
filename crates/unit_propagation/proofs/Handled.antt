-- Where all of a trail is handled, each covered clause is quiet.
use Rattle.std.proofs.Common.{◌≡◌, ◌⊎◌, inl, inr, ℕ, ℤ, pos, ◌<◌, ◌≤◌, ◌-◌, ◌-ℤ◌, List, [], length, slice_index, slice_index_or, sym, ap, ◌∙◌, arith, subst, Option, Some, None, w64}
use Rattle.std.specs.Prelude.{Contains}
use Rattle.std.proofs.lemmas.Bool.{cases_lt}
use Rattle.std.proofs.lemmas.Int.{to_z-of_z, ints}
use mir.Val.{SFits, of_z, to_z}
use Rattle.clause_db.specs.Literal.{variable_of, opposite}
use Rattle.clause_db.proofs.Ordered.{same_or_opposite, contains_at, read_at_place}
use Rattle.unit_propagation.specs.Places.{literal_at, PlacesAreRight}
use Rattle.unit_propagation.specs.Truth.{IsFree}
use Rattle.unit_propagation.specs.Quiet.{IsQuietClause, IsQuiet}
use Rattle.unit_propagation.specs.Status.{FitsVariables}
use Rattle.unit_propagation.specs.Watching.{Holds, IsGuarded, IsCovered, IsWatched}
use Rattle.unit_propagation.specs.Settling.{PendingHold}
use Rattle.unit_propagation.specs.declared.watches.Watched.{Watched}
use Rattle.unit_propagation.proofs.Fits.{quiet_all}
use Rattle.unit_propagation.proofs.VisitSteps.{member_fits}

pub zero_minus : (x : ℤ) → pos 0 -ℤ x ≡ opposite x
zero_minus x = omega (arith, ints)

-- what the code reads of a literal with a minus sign
pub negated_read : (x : ℤ) → SFits w64 x → SFits w64 (pos 0 -ℤ x) → to_z w64 (of_z w64 (pos 0 -ℤ to_z w64 (of_z w64 x))) ≡ opposite x
negated_read x fits fits_minus = ap (λ y. to_z w64 (of_z w64 (pos 0 -ℤ y))) (to_z-of_z w64 x fits) ∙ to_z-of_z w64 (pos 0 -ℤ x) fits_minus ∙ zero_minus x

-- a literal is true, or false, or free
pub true_false_or_free : (trail : List ℤ) (places : List ℕ) (l : ℤ) → PlacesAreRight trail places → variable_of l < length places → Contains trail l ⊎ (Contains trail (opposite l) ⊎ IsFree trail l)
true_false_or_free trail places l right low = elim (cases_lt 0 (slice_index places (variable_of l))) [
  | inl h ↦
      let w = right.of_variable (variable_of l) low h in
      let p : ℕ = slice_index places (variable_of l) - 1 in
      let within : slice_index places (variable_of l) - 1 < length trail = (let a = w.0 in omega (arith, a, h)) in
      elim (same_or_opposite l (literal_at trail (slice_index places (variable_of l) - 1)) (sym w.1)) [
        | inl e ↦ inl (subst (Contains trail) (sym e) (contains_at trail (slice_index places (variable_of l) - 1) within))
        | inr e ↦ inr (inl (subst (Contains trail) e (contains_at trail (slice_index places (variable_of l) - 1) within)))
      ]
  | inr h ↦ inr (inr (λ p k e. absurd (let at = (right.of_literal p k).2 in let same = ap (slice_index places) e in omega (arith, at, same, h))))
]

quiet_holds : (trail clause : List ℤ) → Holds trail clause → IsQuietClause trail clause
quiet_holds trail clause (q, low, has) = inl (literal_at trail q, has, contains_at trail q low)

-- a false literal that is guarded has a true one beside it
holds_guarded : (trail : List ℤ) (starts : List ℕ) (clause : List ℤ) (l : ℤ) → IsGuarded trail starts (length trail) clause l → Contains trail (opposite l) → Holds trail clause
holds_guarded trail starts clause l guarded w =
    let h = guarded w.0 w.1 (read_at_place trail (opposite l) w) in
    (h.0, h.1, h.2)

-- a clause that is covered is quiet
quiet_covered : (trail : List ℤ) (starts places : List ℕ) (lists : List (List ℕ)) (pending : List ℕ) (index : ℕ) (clause : List ℤ) (pair : Option Watched) → PlacesAreRight trail places → ((l : ℤ) → Contains clause l → variable_of l < length places) → (Contains pending index → Holds trail clause) → IsCovered trail starts (length trail) lists pending index clause pair → IsQuietClause trail clause
quiet_covered trail starts places lists pending index clause None right fits hold (inl w) = quiet_holds trail clause (hold w)
quiet_covered trail starts places lists pending index clause None right fits hold (inr w) = quiet_holds trail clause (w.0, w.1, w.2)
quiet_covered trail starts places lists pending index clause (Some watched) right fits hold w =
    elim (true_false_or_free trail places watched.first right (fits watched.first w.has_first)) [
      | inl t ↦ inl (watched.first, w.has_first, t)
      | inr f ↦ elim f [
        | inl false ↦ quiet_holds trail clause (holds_guarded trail starts clause watched.first w.first_guarded false)
        | inr first ↦ elim (true_false_or_free trail places watched.second right (fits watched.second w.has_second)) [
          | inl t ↦ inl (watched.second, w.has_second, t)
          | inr g ↦ elim g [
            | inl false ↦ quiet_holds trail clause (holds_guarded trail starts clause watched.second w.second_guarded false)
            | inr second ↦ inr (watched.first, watched.second, w.has_first, w.has_second, w.differ, first, second)
          ]
        ]
      ]
    ]

pub quiet_handled : (clauses : List (List ℤ)) (trail : List ℤ) (starts places : List ℕ) (head : ℕ) (pairs : List (Option Watched)) (lists : List (List ℕ)) (pending : List ℕ) → PlacesAreRight trail places → FitsVariables (length places) clauses → length pairs ≡ length clauses → length trail ≤ head → PendingHold clauses trail pairs pending → IsWatched clauses trail starts (length places) head pairs lists pending → IsQuiet trail clauses
quiet_handled clauses trail starts places head pairs lists pending right fits all past hold w = quiet_all trail clauses (λ k h.
    let known : k < length pairs = omega (arith, all) in
    let at_end : head ≡ length trail = (let low = w.head_within in omega (arith, low)) in
    quiet_covered trail starts places lists pending k (slice_index_or clauses k []) (slice_index_or pairs k None) right (λ l has. (member_fits (length places) clauses k l fits h has).1) (hold k known) (subst (λ n. IsCovered trail starts n lists pending k (slice_index_or clauses k []) (slice_index_or pairs k None)) at_end (w.each k known)))
