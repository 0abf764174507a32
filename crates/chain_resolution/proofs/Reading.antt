-- What code reads of signed numbers, and whether a table clashes with a clause.
use Rattle.std.proofs.Common.{◌≡◌, ◌≢◌, inl, inr, ℕ, ℤ, pos, ◌<◌, ◌≤◌, List, length, slice_index_or, sym, ap, ◌∙◌, arith, subst, Bool, true, w64, nat_eq}
use Rattle.std.specs.Prelude.{Contains}
use Rattle.std.proofs.lemmas.Int.{to_z-of_z}
use Rattle.std.proofs.lemmas.Bool.Decides.{nat_tests}
use mir.Val.{SFits, of_z, to_z}
use Rattle.clause_db.specs.Literal.{variable_of, opposite}
use Rattle.clause_db.specs.Resolution.{ClashesAt, ClashesOnlyAt}
use Rattle.clause_db.proofs.Ordered.{variable_of-opposite, opposite-opposite, not_opposite_self, same_or_opposite, contains_at, read_at_place}
use Rattle.chain_resolution.specs.Marked.{marked, AreAtVariables}
use Rattle.chain_resolution.proofs.Tables.{at, none_or_positive, stands_from_marked, marked_from_stands}

pub same_read : (x y : ℤ) → SFits w64 x → SFits w64 y → of_z w64 x ≡ of_z w64 y → x ≡ y
same_read x y fx fy e = sym (to_z-of_z w64 x fx) ∙ ap (to_z w64) e ∙ to_z-of_z w64 y fy

module _ (table : List ℤ) (right : AreAtVariables table) (l : ℤ) (positive : 0 < variable_of l) where
  read_opposite : Contains (marked table) (opposite l) → at table (variable_of l) ≡ opposite l
  read_opposite w = ap (at table) (sym (variable_of-opposite l)) ∙ (stands_from_marked table right (opposite l) w).1

  pub no_opposite_of_none : at table (variable_of l) ≡ pos 0 → Contains (marked table) (opposite l) → ⊥
  no_opposite_of_none none w =
      let e : variable_of l ≡ 0 = sym (variable_of-opposite l) ∙ ap variable_of (sym (read_opposite w) ∙ none) in
      omega (arith, e, positive)

  pub no_opposite_of_same : at table (variable_of l) ≡ l → Contains (marked table) (opposite l) → ⊥
  no_opposite_of_same same w = not_opposite_self l positive (sym same ∙ read_opposite w)

  pub opposite_of_other : at table (variable_of l) ≢ pos 0 → at table (variable_of l) ≢ l → Contains (marked table) (opposite l)
  opposite_of_other some other = elim (none_or_positive (at table (variable_of l))) [
    | inl e ↦ absurd (some e)
    | inr p ↦ elim (same_or_opposite l (at table (variable_of l)) (sym (right (variable_of l) p))) [
      | inl e ↦ absurd (other (sym e))
      | inr e ↦ marked_from_stands table right (opposite l) (subst (λ n. 0 < n) (sym (variable_of-opposite l)) positive, ap (at table) (variable_of-opposite l) ∙ e)
    ]
  ]

  -- a literal stands where it is read
  pub has_from_read : at table (variable_of l) ≡ l → Contains (marked table) l
  has_from_read e = marked_from_stands table right l (positive, e)

  pub read_from_has : Contains (marked table) l → at table (variable_of l) ≡ l
  read_from_has w = (stands_from_marked table right l w).1

-- a literal of the second clause whose opposite stands in the first
pub clash_at_place : (a b : List ℤ) (q : ℕ) → q < length b → Contains a (opposite (slice_index_or b q (pos 0))) → ClashesAt (variable_of (slice_index_or b q (pos 0))) a b
clash_at_place a b q within has =
    let l : ℤ = slice_index_or b q (pos 0) in
    (opposite l, has, subst (Contains b) (sym (opposite-opposite l)) (contains_at b q within), variable_of-opposite l)

-- after the last literal the answer is whether a clash was found
pub answer_at_end : (a b : List ℤ) (pivot : ℕ) (found : Bool) (place : ℕ) → ((p : ℕ) → p < place → Contains a (opposite (slice_index_or b p (pos 0))) → (variable_of (slice_index_or b p (pos 0)) ≡ pivot) × (found ≡ true)) → length b ≤ place → (found ≡ true → ClashesAt pivot a b) → (found ≡ true → ClashesOnlyAt pivot a b) × (ClashesOnlyAt pivot a b → found ≡ true)
answer_at_end a b pivot found place passed end witness = (
  λ e. record { here = witness e; nowhere_else = λ other clash. (at_clash other clash).0 },
  λ only. (at_clash pivot only.here).1,
) where
  at_clash : (other : ℕ) → ClashesAt other a b → (other ≡ pivot) × (found ≡ true)
  at_clash other (l, in_a, in_b, is) =
      let read : slice_index_or b in_b.0 (pos 0) ≡ opposite l = read_at_place b (opposite l) in_b in
      let h = in_b.1 in
      let both = passed in_b.0 (omega (arith, h, end)) (subst (Contains a) (sym (ap opposite read ∙ opposite-opposite l)) in_a) in
      (sym is ∙ sym (variable_of-opposite l) ∙ ap variable_of (sym read) ∙ both.0, both.1)

pub eq_from_test : (a b : ℕ) → nat_eq a b ≡ true → a ≡ b
eq_from_test a b h = grind (arith, nat_tests)

pub test_from_eq : (a b : ℕ) → a ≡ b → nat_eq a b ≡ true
test_from_eq a b h = grind (arith, nat_tests)
