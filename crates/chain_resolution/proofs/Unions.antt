-- The union of two clauses, as the literals of the second are added one by one, and resolutions by it.
use Rattle.std.proofs.Common.{◌≡◌, ◌≢◌, ◌⊎◌, inl, inr, ℕ, ℤ, pos, ◌<◌, ◌≤◌, ◌+◌, ◌^◌, List, [], length, slice_index_or, refl, sym, ap, ◌∙◌, arith, subst}
use Rattle.std.specs.Prelude.{Contains}
use Rattle.std.proofs.lemmas.Bool.{cases_lt}
use Rattle.std.proofs.lemmas.List.{get_or_default}
use Rattle.clause_db.specs.Literal.{variable_of, opposite, IsOrdered, AreInRange}
use Rattle.clause_db.specs.Resolution.{ClashesOnlyAt, IsResolvent}
use Rattle.clause_db.proofs.Ordered.{variable_of-opposite, opposite-opposite, not_opposite_self, contains_at, read_at_place, at_member}
use Rattle.clause_db.proofs.Merge.{same_member}
use Rattle.chain_resolution.specs.Marked.{IsWithout, IsWith, IsUnionBut}
use Rattle.chain_resolution.proofs.Lists.{ordered_same, nothing_in}

-- the literals of the second clause before a place have been added
pub record UnionTo (pivot : ℕ) (old other new : List ℤ) (place : ℕ) : Type 0 where
  pub from_either : (l : ℤ) → Contains new l → Contains old l ⊎ (Contains other l × (variable_of l ≢ pivot))
  pub keeps_first : (l : ℤ) → Contains old l → Contains new l
  pub has_second : (p : ℕ) → p < place → variable_of (slice_index_or other p (pos 0)) ≢ pivot → Contains new (slice_index_or other p (pos 0))

pub union_of_none : (pivot : ℕ) (old other : List ℤ) → UnionTo pivot old other old 0
union_of_none pivot old other = record { from_either = λ l w. inl w; keeps_first = λ l w. w; has_second = λ p h. absurd (omega (arith, h)) }

module _ (pivot : ℕ) (old other now : List ℤ) (place : ℕ) (union : UnionTo pivot old other now place) where
  -- the pivot's literal is left out
  pub union_skip : variable_of (slice_index_or other place (pos 0)) ≡ pivot → UnionTo pivot old other now (place + 1)
  union_skip at_pivot = record {
    from_either = union.from_either;
    keeps_first = union.keeps_first;
    has_second = λ p h away. elim (cases_lt p place) [
      | inl g ↦ union.has_second p g away
      | inr g ↦ absurd (let e : p ≡ place = omega (arith, g, h) in away (ap (λ k. variable_of (slice_index_or other k (pos 0))) e ∙ at_pivot))
    ];
  }

  pub union_put : (new : List ℤ) → place < length other → variable_of (slice_index_or other place (pos 0)) ≢ pivot → IsWith (slice_index_or other place (pos 0)) now new → UnionTo pivot old other new (place + 1)
  union_put new within away added = record {
    from_either = λ l w. elim ((added l).0 w) [
      | inl v ↦ union.from_either l v
      | inr e ↦ inr (subst (Contains other) e (contains_at other place within), (λ f. away (ap variable_of e ∙ f)))
    ];
    keeps_first = λ l w. (added l).1 (inl (union.keeps_first l w));
    has_second = λ p h off. elim (cases_lt p place) [
      | inl g ↦ (added _).1 (inl (union.has_second p g off))
      | inr g ↦ let e : p ≡ place = omega (arith, g, h) in (added _).1 (inr (ap (λ k. slice_index_or other k (pos 0)) (sym e)))
    ];
  }

  pub union_of_all : length other ≤ place → IsUnionBut pivot old other now
  union_of_all end l = (
    union.from_either l,
    (λ w. elim w [
      | inl v ↦ union.keeps_first l v
      | inr v ↦
          let is = read_at_place other l v.0 in
          let h = v.0.1 in
          subst (Contains now) is (union.has_second v.0.0 (omega (arith, h, end)) (λ e. v.1 (sym (ap variable_of is) ∙ e)))
    ]),
  )

  -- the opposite of the next literal doesn't stand in what there is
  pub next_apart : IsOrdered other → AreInRange other → ((l : ℤ) → Contains old l → Contains other (opposite l) → variable_of l ≡ pivot) → place < length other → variable_of (slice_index_or other place (pos 0)) ≢ pivot → Contains now (opposite (slice_index_or other place (pos 0))) → ⊥
  next_apart ordered range apart within away w =
      let l : ℤ = slice_index_or other place (pos 0) in
      let here : Contains other l = contains_at other place within in
      elim (union.from_either (opposite l) w) [
        | inl v ↦ away (sym (variable_of-opposite l) ∙ apart (opposite l) v (subst (Contains other) (sym (opposite-opposite l)) here))
        | inr v ↦ not_opposite_self l (range place (pos 0) within).0 (same_member other l (opposite l) ordered here v.0 (sym (variable_of-opposite l)))
      ]

-- a union with nothing
pub union_from_empty : (start clause new : List ℤ) → start ≡ [] → IsOrdered clause → AreInRange clause → IsOrdered new → IsUnionBut 0 start clause new → new ≡ clause
union_from_empty start clause new empty ordered range ordered' union = ordered_same new clause ordered' ordered
    (λ l w. elim ((union l).0 w) [ inl v ↦ absurd (nothing_in l (subst (λ xs. Contains xs l) empty v)) | inr v ↦ v.0 ])
    (λ l w. (union l).1 (inr (w, λ e. absurd (let p = (at_member (λ m. (0 < variable_of m) × (variable_of m < 2 ^ 63)) clause l range w).0 in omega (arith, p, e)))))

module _ (pivot : ℕ) (old mid other : List ℤ) (clash : ClashesOnlyAt pivot old other) (without : IsWithout pivot old mid) where
  -- what is left clashes nowhere
  pub apart_without : (l : ℤ) → Contains mid l → Contains other (opposite l) → variable_of l ≡ pivot
  apart_without l w v = clash.nowhere_else (variable_of l) (l, ((without l).0 w).0, v, refl)

  -- the union without the pivot is the resolvent
  pub resolvent_from_union : (new : List ℤ) → IsUnionBut pivot mid other new → IsResolvent pivot old other new
  resolvent_from_union new union = record {
    from_either = λ k d h. from (slice_index_or new k d) (k, h, get_or_default new k _ d h);
    keeps_first = λ k d h away. (union _).1 (inl ((without _).1 ((k, h, get_or_default old k _ d h), away)));
    keeps_second = λ k d h away. (union _).1 (inr ((k, h, get_or_default other k _ d h), away));
  } where
    from : (l : ℤ) → Contains new l → (Contains old l ⊎ Contains other l) × (variable_of l ≢ pivot)
    from l w = elim ((union l).0 w) [
      | inl v ↦ let o = (without l).0 v in (inl o.0, o.1)
      | inr v ↦ (inr v.0, v.1)
    ]
