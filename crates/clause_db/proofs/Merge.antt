-- The union of two clauses, read from the left.
use Rattle.std.proofs.Common.{◌≡◌, ◌≢◌, ◌⊎◌, inl, inr, ℕ, ℤ, pos, ◌<◌, ◌≤◌, ◌+◌, ◌^◌, List, [], ◌∷◌, ◌++◌, length, slice_index_or, refl, sym, ap, ◌∙◌, arith, subst, length-append}
use Rattle.std.specs.Prelude.{Contains, All}
use Rattle.std.proofs.lemmas.List.Elements.{Contains-append_left, Contains-append_right, All-push}
use Rattle.std.proofs.lemmas.List.Quantifiers.{all_pairs_push}
use Rattle.std.proofs.lemmas.List.{get_or_default}
use Rattle.std.proofs.lemmas.Bool.{cases_lt}
use Rattle.clause_db.specs.Literal.{variable_of, IsOrdered, AreInRange}
use Rattle.clause_db.specs.Resolution.{ClashesOnlyAt, IsResolvent}
use Rattle.clause_db.specs.Union.{TakesLeast}
use Rattle.clause_db.proofs.Ordered.{variable_at, same_or_opposite, same_place, contains_at, read_at_place, at_member, variable_at-mono}

abbrev pub InEither : List ℤ → List ℤ → ℤ → Type 0
InEither a b l = Contains a l ⊎ Contains b l

-- one variable stands in a clause with one sign
pub same_member : (clause : List ℤ) (l m : ℤ) → IsOrdered clause → Contains clause l → Contains clause m → variable_of l ≡ variable_of m → l ≡ m
same_member clause l m ordered in_l in_m e =
    let place : in_l.0 ≡ in_m.0 = same_place clause in_l.0 in_m.0 ordered in_l.1 in_m.1 (ap variable_of (read_at_place clause l in_l) ∙ e ∙ sym (ap variable_of (read_at_place clause m in_m))) in
    sym (read_at_place clause l in_l) ∙ ap (λ k. slice_index_or clause k (pos 0)) place ∙ read_at_place clause m in_m

-- away from the pivot, two clauses that clash there alone have one sign for each variable
pub same_in_either : (a b : List ℤ) (pivot : ℕ) (l m : ℤ) → IsOrdered a → IsOrdered b → ClashesOnlyAt pivot a b → InEither a b l → InEither a b m → variable_of l ≡ variable_of m → variable_of l ≢ pivot → l ≡ m
same_in_either a b pivot l m oa ob only (inl x) (inl y) e away = same_member a l m oa x y e
same_in_either a b pivot l m oa ob only (inr x) (inr y) e away = same_member b l m ob x y e
same_in_either a b pivot l m oa ob only (inl x) (inr y) e away =
    elim (same_or_opposite l m e) [
      | inl h ↦ h
      | inr h ↦ absurd (away (only.nowhere_else _ (l, x, subst (λ n. Contains b n) h y, refl)))
    ]
same_in_either a b pivot l m oa ob only (inr x) (inl y) e away =
    elim (same_or_opposite m l (sym e)) [
      | inl h ↦ sym h
      | inr h ↦ absurd (away (only.nowhere_else _ (m, y, subst (λ n. Contains b n) h x, sym e)))
    ]

-- what has been made of the union, without the pivot, of the literals before the places i and j
pub record Merged (a b : List ℤ) (pivot i j : ℕ) (out : List ℤ) : Type 0 where
  pub first_within : i ≤ length a
  pub second_within : j ≤ length b
  pub size : length out ≤ i + j
  pub from_either : All (λ l. (Contains a l ⊎ Contains b l) × (variable_of l ≢ pivot)) out
  pub first_kept : (p : ℕ) → p < i → variable_at a p ≢ pivot → Contains out (slice_index_or a p (pos 0))
  pub second_kept : (q : ℕ) → q < j → variable_at b q ≢ pivot → Contains out (slice_index_or b q (pos 0))
  pub below_first : All (λ l. (p : ℕ) → i ≤ p → p < length a → variable_of l < variable_at a p) out
  pub below_second : All (λ l. (q : ℕ) → j ≤ q → q < length b → variable_of l < variable_at b q) out
  pub ordered : IsOrdered out
  pub in_range : AreInRange out

module _ (a b : List ℤ) (pivot i j : ℕ) (out : List ℤ) (merged : Merged a b pivot i j out) (l : ℤ) (i' j' : ℕ) (step : TakesLeast a b i j l i' j') where
  -- the pivot's literals are left out
  pub merged-skip : variable_of l ≡ pivot → Merged a b pivot i' j' out
  merged-skip at_pivot = record {
    first_within = step.first_within;
    second_within = step.second_within;
    size = omega (arith, merged.size, step.forward);
    from_either = merged.from_either;
    first_kept = λ p h away. elim (cases_lt p i) [ inl k ↦ merged.first_kept p k away | inr k ↦ absurd (away (step.first_passed p k h ∙ at_pivot)) ];
    second_kept = λ q h away. elim (cases_lt q j) [ inl k ↦ merged.second_kept q k away | inr k ↦ absurd (away (step.second_passed q k h ∙ at_pivot)) ];
    below_first = λ k d h p from within. merged.below_first k d h p (omega (arith, step.first_forward)) within;
    below_second = λ k d h q from within. merged.below_second k d h q (omega (arith, step.second_forward)) within;
    ordered = merged.ordered;
    in_range = merged.in_range;
  }

  -- each literal that stands before the step lies below the new one
  pub below_new : (k : ℕ) (d : ℤ) → k < length out → variable_of (slice_index_or out k d) < variable_of l
  below_new k d h =
      elim (cases_lt i i') [
        | inl g ↦ let e : variable_at a i ≡ variable_of l = step.first_passed i (omega arith) g in
            omega (arith, merged.below_first k d h i (omega arith) (omega (arith, step.first_within)), e)
        | inr g ↦ let gj : j < j' = omega (arith, step.forward) in
            let e : variable_at b j ≡ variable_of l = step.second_passed j (omega arith) gj in
            omega (arith, merged.below_second k d h j (omega arith) (omega (arith, step.second_within)), e)
      ]

  -- any other literal is added
  pub merged-push : IsOrdered a → IsOrdered b → AreInRange a → AreInRange b → ClashesOnlyAt pivot a b → variable_of l ≢ pivot → Merged a b pivot i' j' (out ++ l ∷ [])
  merged-push ordered_a ordered_b range_a range_b only away = record {
    first_within = step.first_within;
    second_within = step.second_within;
    size = simp length-append (omega (arith, merged.size, step.forward));
    from_either = All-push (λ m. (Contains a m ⊎ Contains b m) × (variable_of m ≢ pivot)) out l merged.from_either (step.from_either, away);
    first_kept = λ p h other. elim (cases_lt p i) [
      | inl k ↦ Contains-append_left out _ _ (merged.first_kept p k other)
      | inr k ↦ subst (Contains (out ++ l ∷ [])) (same_in_either a b pivot l _ ordered_a ordered_b only step.from_either (inl (contains_at a p (omega (arith, step.first_within)))) (sym (step.first_passed p k h)) away) last
    ];
    second_kept = λ q h other. elim (cases_lt q j) [
      | inl k ↦ Contains-append_left out _ _ (merged.second_kept q k other)
      | inr k ↦ subst (Contains (out ++ l ∷ [])) (same_in_either a b pivot l _ ordered_a ordered_b only step.from_either (inr (contains_at b q (omega (arith, step.second_within)))) (sym (step.second_passed q k h)) away) last
    ];
    below_first = All-push (λ m. (p : ℕ) → i' ≤ p → p < length a → variable_of m < variable_at a p) out l (λ k d h p from within. merged.below_first k d h p (omega (arith, step.first_forward)) within) step.first_left;
    below_second = All-push (λ m. (q : ℕ) → j' ≤ q → q < length b → variable_of m < variable_at b q) out l (λ k d h q from within. merged.below_second k d h q (omega (arith, step.second_forward)) within) step.second_left;
    ordered = all_pairs_push (λ m n. variable_of m < variable_of n) out l merged.ordered below_new;
    in_range = All-push (λ m. (0 < variable_of m) × (variable_of m < 2 ^ 63)) out l merged.in_range range;
  } where
    last : Contains (out ++ l ∷ []) l
    last = Contains-append_right out (l ∷ []) l (0, omega arith, refl)

    range : (0 < variable_of l) × (variable_of l < 2 ^ 63)
    range = elim step.from_either [ inl h ↦ at_member (λ m. (0 < variable_of m) × (variable_of m < 2 ^ 63)) a l range_a h | inr h ↦ at_member (λ m. (0 < variable_of m) × (variable_of m < 2 ^ 63)) b l range_b h ]

-- what has been made of all is the resolvent
pub merged-all : (a b : List ℤ) (pivot i j : ℕ) (out : List ℤ) → Merged a b pivot i j out → length a ≤ i → length b ≤ j → IsResolvent pivot a b out
merged-all a b pivot i j out merged end_a end_b = record {
  from_either = merged.from_either;
  keeps_first = λ k d h away. subst (Contains out) (get_or_default a k (pos 0) d h) (merged.first_kept k (omega arith) (λ e. away (ap variable_of (get_or_default a k d (pos 0) h) ∙ e)));
  keeps_second = λ k d h away. subst (Contains out) (get_or_default b k (pos 0) d h) (merged.second_kept k (omega arith) (λ e. away (ap variable_of (get_or_default b k d (pos 0) h) ∙ e)));
}

pub merged-none : (a b : List ℤ) (pivot : ℕ) → Merged a b pivot 0 0 []
merged-none a b pivot = record {
  first_within = omega arith;
  second_within = omega arith;
  size = omega arith;
  from_either = λ k d h. absurd (omega arith);
  first_kept = λ p h. absurd (omega arith);
  second_kept = λ p h. absurd (omega arith);
  below_first = λ k d h. absurd (omega arith);
  below_second = λ k d h. absurd (omega arith);
  ordered = λ i j d h k. absurd (omega arith);
  in_range = λ k d h. absurd (omega arith);
}

-- the three steps
module _ (a b : List ℤ) (ordered_a : IsOrdered a) (ordered_b : IsOrdered b) (i j : ℕ) where
  pub take_first : i < length a → j ≤ length b → (j < length b → variable_at a i < variable_at b j) → TakesLeast a b i j (slice_index_or a i (pos 0)) (i + 1) j
  take_first in_a in_b below = record {
    forward = omega arith;
    first_forward = omega arith;
    second_forward = omega arith;
    first_within = omega arith;
    second_within = in_b;
    from_either = inl (contains_at a i in_a);
    first_passed = λ p from to. ap (variable_at a) (omega arith);
    second_passed = λ q from to. absurd (omega arith);
    first_left = λ p from within. ordered_a i p (pos 0) (omega arith) within;
    second_left = λ q from within. omega (arith, below (omega arith), variable_at-mono b j q ordered_b from within);
  }

  pub take_second : i ≤ length a → j < length b → (i < length a → variable_at b j < variable_at a i) → TakesLeast a b i j (slice_index_or b j (pos 0)) i (j + 1)
  take_second in_a in_b below = record {
    forward = omega arith;
    first_forward = omega arith;
    second_forward = omega arith;
    first_within = in_a;
    second_within = omega arith;
    from_either = inr (contains_at b j in_b);
    first_passed = λ p from to. absurd (omega arith);
    second_passed = λ q from to. ap (variable_at b) (omega arith);
    first_left = λ p from within. omega (arith, below (omega arith), variable_at-mono a i p ordered_a from within);
    second_left = λ q from within. ordered_b j q (pos 0) (omega arith) within;
  }

  pub take_both : i < length a → j < length b → variable_at a i ≡ variable_at b j → TakesLeast a b i j (slice_index_or a i (pos 0)) (i + 1) (j + 1)
  take_both in_a in_b same = record {
    forward = omega arith;
    first_forward = omega arith;
    second_forward = omega arith;
    first_within = omega arith;
    second_within = omega arith;
    from_either = inl (contains_at a i in_a);
    first_passed = λ p from to. ap (variable_at a) (omega arith);
    second_passed = λ q from to. ap (variable_at b) (omega arith) ∙ sym same;
    first_left = λ p from within. ordered_a i p (pos 0) (omega arith) within;
    second_left = λ q from within. omega (arith, same, ordered_b j q (pos 0) (omega arith) within);
  }
