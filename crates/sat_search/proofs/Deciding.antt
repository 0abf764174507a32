-- One decision more, where propagation is complete.
use Rattle.std.proofs.Common.{◌≡◌, inl, inr, ℕ, suc, zero, false, ◌==◌, ℤ, ◌<◌, ◌+◌, List, [], ◌∷◌, ◌++◌, length, take, set, slice_index, length-append, refl, sym, ap, ◌∙◌, arith, subst}
use Rattle.std.specs.Prelude.{Contains}
use Rattle.std.proofs.Math.Seq.{get_or-append_seam, take-length}
use Rattle.std.proofs.lemmas.Bool.{cases_lt}
use Rattle.std.proofs.lemmas.List.{get_or_append_left, take-append-le}
use Rattle.std.proofs.lemmas.List.Elements.{Contains-append_left, Contains-append_right}
use Rattle.clause_db.specs.Literal.{variable_of}
use Rattle.unit_propagation.specs.Places.{StartsAreRight}
use Rattle.unit_propagation.specs.Truth.{IsFree}
use Rattle.unit_propagation.specs.Quiet.{IsQuiet, HasReasons}
use Rattle.unit_propagation.proofs.Reasons.{reasons_decided}
use Rattle.sat_search.specs.Learning.{IsSearching}

pub searching_decided : (clauses : List (List ℤ)) (trail : List ℤ) (starts reasons : List ℕ) → IsSearching clauses trail starts reasons → IsQuiet trail clauses → StartsAreRight starts (length trail) → (l : ℤ) → IsFree trail l → IsSearching clauses (trail ++ l ∷ []) (starts ++ length trail ∷ []) (set reasons (variable_of l) 0)
searching_decided clauses trail starts reasons searching quiet right l free = record {
  has_reasons = reasons_decided clauses trail (starts ++ length trail ∷ []) reasons more l free 0 here;
  quiet_before = λ k h. elim (cases_lt k (length starts)) [
    | inl g ↦ subst (λ t. IsQuiet t clauses) (sym (ap (λ n. take n (trail ++ l ∷ [])) (old k g) ∙ take-append-le (slice_index starts k) trail (l ∷ []) (right.within k g))) (searching.quiet_before k g)
    | inr g ↦
        let e : k ≡ length starts = omega (arith, more_starts, g, h) in
        subst (λ t. IsQuiet t clauses) (sym (ap (λ n. take n (trail ++ l ∷ [])) (ap (slice_index (starts ++ length trail ∷ [])) e ∙ new) ∙ take-append-le (length trail) trail (l ∷ []) (omega arith) ∙ take-length trail)) quiet
  ];
  started = λ k h. elim (cases_lt k (length starts)) [
    | inl g ↦ let a = searching.started k g in let b = old k g in omega (arith, a, b, more_trail)
    | inr g ↦
        let e : k ≡ length starts = omega (arith, more_starts, g, h) in
        let b = ap (slice_index (starts ++ length trail ∷ [])) e ∙ new in
        omega (arith, b, more_trail)
  ];
} where
  more_starts : length (starts ++ length trail ∷ []) ≡ length starts + 1
  more_starts = simp length-append (omega arith)

  more_trail : length (trail ++ l ∷ []) ≡ length trail + 1
  more_trail = simp length-append (omega arith)

  old : (k : ℕ) → k < length starts → slice_index (starts ++ length trail ∷ []) k ≡ slice_index starts k
  old k g = get_or_append_left starts (length trail ∷ []) 0 k g

  new : slice_index (starts ++ length trail ∷ []) (length starts) ≡ length trail
  new = get_or-append_seam starts (length trail) [] 0

  here : Contains (starts ++ length trail ∷ []) (length trail)
  here = Contains-append_right starts (length trail ∷ []) (length trail) (0, omega arith, refl)

  more : HasReasons clauses trail (starts ++ length trail ∷ []) reasons
  more p h = elim (searching.has_reasons p h) [ inl w ↦ inl (Contains-append_left starts (length trail ∷ []) p w) | inr r ↦ inr r ]

pub not_zero : (n : ℕ) → false ≡ (n == 0) → 0 < n
not_zero zero e = absurd cc
not_zero (suc n) e = omega arith
