-- Chains of resolutions, and the clause that is learnt at the end of one.
use Rattle.std.proofs.Common.{◌≡◌, ◌≢◌, inl, inr, ℕ, suc, ℤ, pos, ◌<◌, ◌≤◌, ◌+◌, List, [], ◌∷◌, ◌++◌, length, map, take, drop, slice_index, slice_index_or, get_or, get_or-take, get_or-drop, length-take, length-drop, refl, sym, ap, ◌∙◌, arith, subst}
use Rattle.std.specs.Prelude.{Contains}
use Rattle.std.proofs.lemmas.Bool.{cases_lt}
use Rattle.std.proofs.Math.Seq.{drop-cons}
use Rattle.std.proofs.lemmas.List.{take-append-drop, get_or_default, get_or-map, length-map}
use Rattle.std.proofs.lemmas.List.Elements.{Contains-append_cases}
use Rattle.clause_db.specs.Literal.{variable_of, opposite, IsOrdered}
use Rattle.clause_db.specs.Log.{ResolvesTo}
use Rattle.clause_db.specs.Resolution.{ClashesOnlyAt, IsResolvent}
use Rattle.clause_db.specs.Propagation.{StrengthensPropagation}
use Rattle.clause_db.proofs.Ordered.{contains_at, read_at_place, at_member}
use Rattle.unit_propagation.specs.Places.{literal_at, PlacesAreRight}
use Rattle.unit_propagation.specs.Quiet.{IsFalseClause, IsQuiet}
use Rattle.unit_propagation.proofs.Consistent.{consistent_from_places, IsConsistent}
use Rattle.unit_propagation.proofs.Complete.{propagation_stays, refutes_nothing}
use Rattle.sat_search.specs.Latest.{IsLatest, place_in}
use Rattle.sat_search.specs.Learning.{IsResolution}
use Rattle.sat_search.proofs.Resolving.{place_of_false}

-- one resolution more
pub resolves_push : (clauses : List (List ℤ)) (from : List ℤ) (pivots : List (ℕ × ℕ)) (mid : List ℤ) (pivot : ℕ × ℕ) (to : List ℤ) → ResolvesTo clauses from pivots mid → IsResolution clauses mid pivot.0 pivot.1 to → IsOrdered to → ResolvesTo clauses from (pivots ++ pivot ∷ []) to
resolves_push clauses from [] mid pivot to e step ordered =
    (step.other, to, step.numbered, subst (λ c. ClashesOnlyAt pivot.0 c step.other) (sym e) step.clash, subst (λ c. IsResolvent pivot.0 c step.other to) (sym e) step.resolvent, ordered, refl)
resolves_push clauses from (p ∷ ps) mid pivot to w step ordered =
    (w.0, w.1, w.2, w.3, w.4, w.5, resolves_push clauses w.1 ps mid pivot to w.6 step ordered)

-- an element of the images has its place
contains_map : (f : ℤ → ℤ) (xs : List ℤ) (l : ℤ) → Contains (map f xs) l → (m : ℤ) × Contains xs m × (l ≡ f m)
contains_map f xs l (k, h, e) =
    let within : k < length xs = simp length-map at h in
    (get_or xs k (pos 0), contains_at xs k within, sym e ∙ get_or-map f xs k (pos 0) l within)

-- an element of a list without its k-th stands at another place
other_place : (xs : List ℤ) (k : ℕ) (m : ℤ) → k < length xs → Contains (take k xs ++ drop (k + 1) xs) m → (j : ℕ) × (j < length xs) × (j ≢ k) × (slice_index_or xs j (pos 0) ≡ m)
other_place xs k m in_xs w =
    elim (Contains-append_cases (take k xs) (drop (k + 1) xs) m w) [
      | inl v ↦
          let low : v.0 < k = let h = v.1 in let g = length-take k xs in omega (arith, g, h) in
          let within : v.0 < length xs = omega (arith, low, in_xs) in
          (v.0, within, (λ e. absurd (omega (arith, low, e))), sym (get_or-take k xs v.0 (pos 0) low) ∙ get_or_default (take k xs) v.0 (pos 0) m v.1 ∙ v.2)
      | inr v ↦
          let h : k + 1 + v.0 < length xs = let h = v.1 in let g = length-drop (k + 1) xs in omega (arith, g, h) in
          (k + 1 + v.0, h, (λ e. absurd (omega (arith, e))), sym (get_or-drop (k + 1) xs v.0 (pos 0)) ∙ get_or_default (drop (k + 1) xs) v.0 (pos 0) m v.1 ∙ v.2)
    ]

-- a prefix of the trail
pub contains_take : (n : ℕ) (trail : List ℤ) (l : ℤ) → Contains (take n trail) l → Contains trail l
contains_take n trail l (k, h, e) =
    let low : (k < n) × (k < length trail) = let g = length-take n trail in (omega (arith, g, h), omega (arith, g, h)) in
    (k, low.1, sym (get_or-take n trail k l low.0) ∙ e)

pub take_contains : (n : ℕ) (trail : List ℤ) (q : ℕ) (l : ℤ) → q < n → q < length trail → literal_at trail q ≡ l → Contains (take n trail) l
take_contains n trail q l low within is =
    subst (Contains (take n trail)) (get_or-take n trail q (pos 0) low ∙ is) (contains_at (take n trail) q (let g = length-take n trail in omega (arith, g, low, within)))

-- a clause that is false and has one literal alone that became so after a quiet prefix of the trail tells
-- propagation something new
module _ (clauses : List (List ℤ)) (trail : List ℤ) (places : List ℕ) (right : PlacesAreRight trail places) (start : ℕ) (quiet : IsQuiet (take start trail) clauses) (learnt : List ℤ) (all_false : IsFalseClause trail learnt) (last second : ℕ) (latest : IsLatest places learnt (length learnt) last second) (after : start < last) (before : second ≤ start) where
  consistent_prefix : IsConsistent (take start trail)
  consistent_prefix l yes_l no_l = consistent_from_places trail places right l (contains_take start trail l yes_l) (contains_take start trail (opposite l) no_l)

  -- every other literal was false before
  false_in_prefix : (k : ℕ) → k < length learnt → place_in places learnt k ≡ last → (m : ℤ) → Contains (take k learnt ++ drop (k + 1) learnt) m → Contains (take start trail) (opposite m)
  false_in_prefix k h is m w =
      let other = other_place learnt k m h w in
      let j : ℕ = other.0 in
      let at_j : slice_index_or learnt j (pos 0) ≡ m = other.3 in
      let low : place_in places learnt j ≤ second = elim (cases_lt second (place_in places learnt j)) [
        | inl g ↦ absurd (other.2 (latest.one_later j k other.1 h g (omega (arith, is, after, before))))
        | inr g ↦ g
      ] in
      let false = at_member (λ l. Contains trail (opposite l)) learnt m all_false (subst (Contains learnt) at_j (contains_at learnt j other.1)) in
      let place = place_of_false trail places right m false.0 false.1 (read_at_place trail (opposite m) false) in
      let same : place_in places learnt j ≡ slice_index places (variable_of m) = ap (λ l. slice_index places (variable_of l)) at_j in
      take_contains start trail false.0 (opposite m) (omega (arith, low, place, same, before)) false.1 (read_at_place trail (opposite m) false)

  pub learnt_strengthens : StrengthensPropagation clauses learnt
  learnt_strengthens =
      let w = latest.has_last (omega (arith, after)) in
      let k : ℕ = w.0 in
      let taken : ℤ = slice_index_or learnt k (pos 0) in
      let on_trail : (l : ℤ) → Contains (map opposite (take k learnt ++ drop (k + 1) learnt)) l → Contains (take start trail) l = λ l v. let m = contains_map opposite (take k learnt ++ drop (k + 1) learnt) l v in subst (Contains (take start trail)) (sym m.2) (false_in_prefix k w.1 w.2 m.0 m.1) in (
        take k learnt,
        drop (k + 1) learnt,
        taken,
        split k w.1,
        refutes_nothing clauses (take start trail) (map opposite (take k learnt ++ drop (k + 1) learnt)) consistent_prefix quiet on_trail,
        λ p. consistent_from_places trail places right taken (contains_take start trail taken (propagation_stays clauses (take start trail) (map opposite (take k learnt ++ drop (k + 1) learnt)) consistent_prefix quiet on_trail p)) (at_member (λ l. Contains trail (opposite l)) learnt taken all_false (contains_at learnt k w.1)),
      ) where
        split : (k : ℕ) → k < length learnt → learnt ≡ take k learnt ++ slice_index_or learnt k (pos 0) ∷ drop (k + 1) learnt
        split k h = sym (take-append-drop k learnt) ∙ ap (λ r. take k learnt ++ r) (drop-cons learnt k (pos 0) h ∙ ap (λ n. slice_index_or learnt k (pos 0) ∷ drop n learnt) (let e : suc k ≡ k + 1 = omega arith in e))
