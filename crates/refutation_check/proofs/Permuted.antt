-- A clause is new at a literal in whatever order its literals are taken.
use Rattle.std.proofs.Common.{◌≡◌, ◌≢◌, inl, inr, ℕ, ℤ, ◌<◌, ◌+◌, List, ◌++◌, length, take, drop, slice_index_or, sym, ap, ◌∙◌, arith, subst}
use Rattle.std.specs.Prelude.{Contains}
use Rattle.std.specs.List.{SwappedAt}
use Rattle.std.proofs.lemmas.Bool.{cases_eq}
use Rattle.std.proofs.lemmas.List.{get_or_default}
use Rattle.clause_db.specs.Literal.{variable_of, opposite, IsOrdered}
use Rattle.clause_db.specs.Propagation.{Propagates}
use Rattle.clause_db.proofs.Ordered.{contains_at, read_at_place, same_place, at_member}
use Rattle.unit_propagation.specs.Places.{literal_at}
use Rattle.refutation_check.specs.Budget.{opposites_but, IsNewAt}
use Rattle.refutation_check.specs.Runs.{IsOutside}
use Rattle.refutation_check.specs.Distinct.{AreDistinct, HaveSameLiterals}
use Rattle.refutation_check.proofs.Assumed.{contains_map, map_contains, other_place, at_other_place, propagates_more, refutes_more}

-- the literals of a clause are distinct
pub distinct_ordered : (clause : List ℤ) → IsOrdered clause → AreDistinct clause
distinct_ordered clause ordered i j hi hj e = same_place clause i j ordered hi hj e

module _ (clauses : List (List ℤ)) (xs ys : List ℤ) (distinct : AreDistinct ys) (there : (l : ℤ) → Contains xs l → Contains ys l) (back : (l : ℤ) → Contains ys l → Contains xs l) where
  -- the literals at other places of one stand at other places of the other
  opposites_there : (k j : ℕ) → k < length xs → j < length ys → literal_at ys j ≡ literal_at xs k → (x : ℤ) → Contains (opposites_but ys j) x → Contains (opposites_but xs k) x
  opposites_there k j hk hj same x w =
      let m = contains_map opposite (take j ys ++ drop (j + 1) ys) x w in
      let i = other_place ys j (j + 1) m.0 m.1 in
      let v = back m.0 (subst (Contains ys) i.3 (contains_at ys i.0 i.1)) in
      let at : literal_at xs v.0 ≡ m.0 = read_at_place xs m.0 v in
      let outside : IsOutside k (k + 1) v.0 = λ above below.
      let e : v.0 ≡ k = omega (arith, above, below) in
      let here : i.0 ≡ j = distinct i.0 j i.1 hj (ap variable_of (i.3 ∙ sym at ∙ ap (literal_at xs) e ∙ sym same)) in
      i.2 (omega (arith, here)) (omega (arith, here)) in
      subst (Contains (opposites_but xs k)) (ap opposite at ∙ sym m.2) (map_contains opposite (take k xs ++ drop (k + 1) xs) (literal_at xs v.0) (at_other_place xs k (k + 1) v.0 v.1 outside))

  pub new_there : (k : ℕ) → k < length xs → IsNewAt clauses xs k → (j : ℕ) × (j < length ys) × IsNewAt clauses ys j
  new_there k hk new =
      let w = there (literal_at xs k) (contains_at xs k hk) in
      let same : literal_at ys w.0 ≡ literal_at xs k = read_at_place ys (literal_at xs k) w in
      let more = opposites_there k w.0 hk w.1 same in (
        w.0,
        w.1,
        ((λ r. new.0 (refutes_more clauses (opposites_but ys w.0) (opposites_but xs k) more r)), λ r. new.1 (propagates_more clauses (opposites_but ys w.0) (opposites_but xs k) more (subst (λ l. Propagates clauses (opposites_but ys w.0) l) same r))),
      )

-- a fact of all literals holds for them in another order
pub all_there : (P : ℤ → Type 0) (xs ys : List ℤ) → ((k : ℕ) (d : ℤ) → k < length xs → P (slice_index_or xs k d)) → ((l : ℤ) → Contains ys l → Contains xs l) → (k : ℕ) (d : ℤ) → k < length ys → P (slice_index_or ys k d)
all_there P xs ys all back k d h = at_member P xs (slice_index_or ys k d) all (back (slice_index_or ys k d) (k, h, get_or_default ys k (slice_index_or ys k d) d h))

pub same_itself : (xs : List ℤ) → HaveSameLiterals xs xs
same_itself xs = ((λ l w. w), λ l w. w)

pub same_further : (xs ys zs : List ℤ) → HaveSameLiterals xs ys → HaveSameLiterals ys zs → HaveSameLiterals xs zs
same_further xs ys zs first second = ((λ l w. second.0 l (first.0 l w)), λ l w. first.1 l (second.1 l w))

module _ (xs ys : List ℤ) (i j : ℕ) (hi : i < length xs) (hj : j < length xs) (long : length ys ≡ length xs) where
  swapped_there : ((d : ℤ) → slice_index_or ys i d ≡ slice_index_or xs j d) → ((d : ℤ) → slice_index_or ys j d ≡ slice_index_or xs i d) → ((k : ℕ) (d : ℤ) → k ≢ i → k ≢ j → slice_index_or ys k d ≡ slice_index_or xs k d) → (l : ℤ) → Contains xs l → Contains ys l
  swapped_there at_first at_second others l (k, h, e) = elim (cases_eq k i) [
    | inl here ↦ (j, omega (arith, hj, long), at_second l ∙ ap (λ n. slice_index_or xs n l) (sym here) ∙ e)
    | inr differ ↦ elim (cases_eq k j) [
      | inl there ↦ (i, omega (arith, hi, long), at_first l ∙ ap (λ n. slice_index_or xs n l) (sym there) ∙ e)
      | inr apart ↦ (k, omega (arith, h, long), others k l differ apart ∙ e)
    ]
  ]

-- two literals in each other's place
pub swapped_same : (xs ys : List ℤ) (i j : ℕ) → i < length xs → j < length xs → length ys ≡ length xs → SwappedAt xs ys i j → HaveSameLiterals xs ys
swapped_same xs ys i j hi hj long swapped = (
  swapped_there xs ys i j hi hj long swapped.0 swapped.1 swapped.2,
  swapped_there ys xs i j (omega (arith, hi, long)) (omega (arith, hj, long)) (sym long) (λ d. sym (swapped.1 d)) (λ d. sym (swapped.0 d)) (λ k d differ apart. sym (swapped.2 k d differ apart)),
)
