-- Propagation from the opposites of all literals of a clause but one, on a trail of decisions.
use Rattle.std.proofs.Common.{◌≡◌, inl, inr, ℕ, zero, suc, ℤ, pos, ◌<◌, ◌≤◌, ◌+◌, ◌-◌, List, ◌∷◌, ◌++◌, length, map, take, drop, slice_index_or, get_or, get_or-take, get_or-drop, length-take, length-drop, length-append, sym, ap, ◌∙◌, arith, subst}
use Rattle.std.specs.Prelude.{Contains}
use Rattle.std.proofs.lemmas.Bool.{cases_lt}
use Rattle.std.proofs.Math.Seq.{drop-cons, get_or-append_seam, take-append_seam, drop-append-add}
use Rattle.std.proofs.lemmas.List.{take-append-drop, get_or_default, get_or-map, length-map}
use Rattle.std.proofs.lemmas.List.Elements.{Contains-append_cases, Contains-append_left, Contains-append_right}
use Rattle.clause_db.specs.Literal.{opposite}
use Rattle.clause_db.specs.Propagation.{StrengthensPropagation, Propagates, PropagationRefutes, assumption, unit}
use Rattle.clause_db.proofs.Ordered.{contains_at, read_at_place}
use Rattle.clause_db.proofs.Places.{contains_numbered}
use Rattle.unit_propagation.specs.Places.{literal_at}
use Rattle.unit_propagation.specs.Quiet.{IsFalseClause, HasReasons}
use Rattle.refutation_check.specs.Budget.{opposites_but, opposites_outside, IsNewAt, IsNewAmong}
use Rattle.refutation_check.specs.Runs.{IsOutside}

-- an element of the opposites is one of an element
pub contains_map : (f : ℤ → ℤ) (xs : List ℤ) (l : ℤ) → Contains (map f xs) l → (m : ℤ) × Contains xs m × (l ≡ f m)
contains_map f xs l (k, h, e) =
    let within : k < length xs = simp length-map at h in
    (get_or xs k (pos 0), contains_at xs k within, sym e ∙ get_or-map f xs k (pos 0) l within)

pub map_contains : (f : ℤ → ℤ) (xs : List ℤ) (m : ℤ) → Contains xs m → Contains (map f xs) (f m)
map_contains f xs m (k, h, e) = (k, simp length-map h, get_or-map f xs k m (f m) h ∙ ap f e)

-- an element of a list without some of its places stands at another place
pub other_place : (xs : List ℤ) (from to : ℕ) (m : ℤ) → Contains (take from xs ++ drop to xs) m → (j : ℕ) × (j < length xs) × IsOutside from to j × (slice_index_or xs j (pos 0) ≡ m)
other_place xs from to m w =
    elim (Contains-append_cases (take from xs) (drop to xs) m w) [
      | inl v ↦
          let h = v.1 in
          let g = length-take from xs in
          let low : v.0 < from = omega (arith, g, h) in
          let within : v.0 < length xs = omega (arith, g, h) in
          (v.0, within, (λ above below. omega (arith, low, above)), sym (get_or-take from xs v.0 (pos 0) low) ∙ get_or_default (take from xs) v.0 (pos 0) m v.1 ∙ v.2)
      | inr v ↦
          let h : to + v.0 < length xs = let h = v.1 in let g = length-drop to xs in omega (arith, g, h) in
          (to + v.0, h, (λ above below. omega (arith, below)), sym (get_or-drop to xs v.0 (pos 0)) ∙ get_or_default (drop to xs) v.0 (pos 0) m v.1 ∙ v.2)
    ]

-- and what stands at another place is an element of it
pub at_other_place : (xs : List ℤ) (from to j : ℕ) → j < length xs → IsOutside from to j → Contains (take from xs ++ drop to xs) (slice_index_or xs j (pos 0))
at_other_place xs from to j within outside =
    elim (cases_lt j from) [
      | inl low ↦ Contains-append_left (take from xs) (drop to xs) _ (subst (Contains (take from xs)) (get_or-take from xs j (pos 0) low) (contains_at (take from xs) j (let g = length-take from xs in omega (arith, g, low, within))))
      | inr high ↦ elim (cases_lt j to) [
        | inl below ↦ absurd (outside (omega (arith, high)) below)
        | inr above ↦
            let back : to + (j - to) ≡ j = omega (arith, above) in
            Contains-append_right (take from xs) (drop to xs) _ (subst (Contains (drop to xs)) (get_or-drop to xs (j - to) (pos 0) ∙ ap (λ n. slice_index_or xs n (pos 0)) back) (contains_at (drop to xs) (j - to) (let g = length-drop to xs in omega (arith, g, above, within))))
      ]
    ]

-- where fewer places are left out, there are more opposites
pub opposites_narrow : (clause : List ℤ) (from to a b : ℕ) → from ≤ a → b ≤ to → (x : ℤ) → Contains (opposites_outside clause from to) x → Contains (opposites_outside clause a b) x
opposites_narrow clause from to a b low high x w =
    let m = contains_map opposite (take from clause ++ drop to clause) x w in
    let j = other_place clause from to m.0 m.1 in
    let outside : IsOutside a b j.0 = λ above below. j.2 (omega (arith, low, above)) (omega (arith, high, below)) in
    subst (Contains (opposites_outside clause a b)) (ap opposite j.3 ∙ sym m.2) (map_contains opposite (take a clause ++ drop b clause) (literal_at clause j.0) (at_other_place clause a b j.0 j.1 outside))

-- what is propagated from some literals is from more
module _ (clauses : List (List ℤ)) (assumed more : List ℤ) (has : (x : ℤ) → Contains assumed x → Contains more x) where
  pub propagates_more : {l : ℤ} → Propagates clauses assumed l → Propagates clauses more l
  propagates_more (assumption w) = assumption (has _ w)
  propagates_more (unit clause in_clauses in_clause others) = unit clause in_clauses in_clause (λ m w ne. propagates_more (others m w ne))

  pub refutes_more : PropagationRefutes clauses assumed → PropagationRefutes clauses more
  refutes_more (clause, in_clauses, all_false) = (clause, in_clauses, λ m w. propagates_more (all_false m w))

-- where propagation refutes the clauses without the literals at some places, the clause is new at none of them
pub none_new : (clauses : List (List ℤ)) (clause : List ℤ) (from to : ℕ) → PropagationRefutes clauses (opposites_outside clause from to) → IsNewAmong clauses clause from to → ⊥
none_new clauses clause from to refuted (place, low, high, new) =
    new.0 (refutes_more clauses (opposites_outside clause from to) (opposites_but clause place) (opposites_narrow clause from to place (place + 1) low (let h : place + 1 ≤ to = omega (arith, high) in h)) refuted)

-- where propagation comes to the literals of the decisions, it comes to all of the trail
module _ (clauses : List (List ℤ)) (assumed trail : List ℤ) (starts reasons : List ℕ) (has : HasReasons clauses trail starts reasons) (decisions : (p : ℕ) → p < length trail → Contains starts p → Propagates clauses assumed (literal_at trail p)) where
  up_to : (n p : ℕ) → p < n → p < length trail → Propagates clauses assumed (literal_at trail p)
  up_to zero p low h = absurd (omega arith)
  up_to (suc n) p low h =
      elim (has p h) [
        | inl w ↦ decisions p h w
        | inr w ↦ unit w.0 (contains_numbered clauses _ w.0 w.1) w.2.has (λ m in_clause differ. let v = w.2.others_false m in_clause differ in subst (Propagates clauses assumed) v.3 (up_to n v.0 (omega (arith, v.1, low)) v.2))
      ]

  pub trail_propagates : (l : ℤ) → Contains trail l → Propagates clauses assumed l
  trail_propagates l w = subst (Propagates clauses assumed) (read_at_place trail l w) (up_to (w.0 + 1) w.0 (omega arith) w.1)

  pub false_clause_refutes : (clause : List ℤ) → Contains clauses clause → IsFalseClause trail clause → PropagationRefutes clauses assumed
  false_clause_refutes clause in_clauses all_false =
      (clause, in_clauses, λ m w. trail_propagates (opposite m) (subst (λ l. Contains trail (opposite l)) w.2 (all_false w.0 m w.1)))

module _ (clauses : List (List ℤ)) where
  -- a clause with such a place strengthens propagation
  pub strengthens_by_place : (clause : List ℤ) (place : ℕ) → place < length clause → IsNewAt clauses clause place → StrengthensPropagation clauses clause
  strengthens_by_place clause place within new =
      (take place clause, drop (place + 1) clause, literal_at clause place, split, new.0, new.1)
    where
      split : clause ≡ take place clause ++ literal_at clause place ∷ drop (place + 1) clause
      split = sym (take-append-drop place clause) ∙ ap (λ xs. take place clause ++ xs) (drop-cons clause place (pos 0) within ∙ ap (λ n. literal_at clause place ∷ drop n clause) (let e : suc place ≡ place + 1 = omega arith in e))

  -- and one that does has such a place
  pub place_of_strengthening : (clause : List ℤ) → StrengthensPropagation clauses clause → (place : ℕ) × (place < length clause) × IsNewAt clauses clause place
  place_of_strengthening clause (before, after, taken, is, not_refuted, not_reached) =
      subst (λ xs. (place : ℕ) × (place < length xs) × IsNewAt clauses xs place) (sym is) (length before, within, ((λ r. not_refuted (subst (PropagationRefutes clauses) same r)), λ r. not_reached (subst (λ ls. Propagates clauses ls taken) same (subst (Propagates clauses (opposites_but (before ++ taken ∷ after) (length before))) (get_or-append_seam before taken after (pos 0)) r))))
    where
      within : length before < length (before ++ taken ∷ after)
      within = simp length-append (omega arith)

      same : opposites_but (before ++ taken ∷ after) (length before) ≡ map opposite (before ++ after)
      same = ap (map opposite) (ap (λ xs. xs ++ drop (length before + 1) (before ++ taken ∷ after)) (take-append_seam before (taken ∷ after)) ∙ ap (λ xs. before ++ xs) (drop-append-add before (taken ∷ after) 1))
