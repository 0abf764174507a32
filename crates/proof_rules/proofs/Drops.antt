-- Larger sets of full pairs, and what a drop leaves.
use Rattle.std.proofs.Common.{◌≡◌, inl, inr, ℕ, Bool, true, false, cond, arith, refl, subst}
use Rattle.std.specs.Prelude.{nat_eq}
use Rattle.std.proofs.lemmas.Bool.Decides.{nat_tests}
use Rattle.core_ir.specs.Fits.{Fits}
use Rattle.core_ir.specs.Tables.{Effects, EntryName, Shared, Own, Keyed}
use Rattle.core_ir.specs.declared.cores.JointCore.{JointCore}
use Rattle.core_ir.proofs.Bodies.{all_mapped}
use Rattle.proof_rules.proofs.Sharing.{more_shared}
use Rattle.proof_rules.specs.Rules.{IsToPairOf, GoToPairsOf, SameCalls, SameEndUnder, SameCallsUnder, IsShared, IsWithin, without, HoldsItself, CallsHoldThemselves}
use Rattle.std.specs.Prelude.{List}

module _ (joint : JointCore) (effects : Effects) (small large : ℕ → Bool) (within : IsWithin small large) where
  to_larger : (n : EntryName) → IsToPairOf small n → IsToPairOf large n
  to_larger (Shared p) h = within p h
  to_larger (Own side u) h = h

  all_to_larger : (xs : List Keyed) → GoToPairsOf joint effects small xs → GoToPairsOf joint effects large xs
  all_to_larger xs h = all_mapped _ _ (λ x k e. to_larger x.name (k e)) xs h

  calls_larger : (xs ys : List Keyed) → SameCalls joint effects small xs ys → SameCalls joint effects large xs ys
  calls_larger xs ys h = record { old_covered = h.old_covered; new_covered = h.new_covered; old_full = all_to_larger xs h.old_full; new_full = all_to_larger ys h.new_full }

  pub more_full : (shared : ℕ → Bool) (p : ℕ) → SameCallsUnder joint effects shared small p → SameCallsUnder joint effects shared large p
  more_full shared p (inl e) = inl e
  more_full shared p (inr h) = inr (record { same = λ u v args store entries i l. calls_larger _ _ (h.same u v args store entries i l) })

same_number : (q p : ℕ) → nat_eq q p ≡ true → q ≡ p
same_number q p e = grind (arith, nat_tests)

stays_by : (b c : Bool) → (b ≡ true → ⊥) → c ≡ true → cond b false c ≡ true
stays_by true c h e = absurd (h refl)
stays_by false c h e = e

module _ (joint : JointCore) (effects : Effects) (good before : ℕ → Bool) (p : ℕ) (within : IsWithin good before) where
  pub drop_leaves : Fits joint → IsShared joint before → HoldsItself joint effects good → (SameEndUnder joint effects before p → ⊥) → IsWithin good (without before p)
  drop_leaves fits pairs holds refuted q g =
      stays_by (nat_eq q p) (before q) (λ e. refuted (more_shared joint effects good before fits.paired pairs within p (subst (λ n. SameEndUnder joint effects good n) (same_number q p e) (holds q g)))) (within q g)

  pub calls_drop_leaves : (shared : ℕ → Bool) → CallsHoldThemselves joint effects shared good → (SameCallsUnder joint effects shared before p → ⊥) → IsWithin good (without before p)
  calls_drop_leaves shared holds refuted q g =
      stays_by (nat_eq q p) (before q) (λ e. refuted (more_full joint effects good before within shared p (subst (λ n. SameCallsUnder joint effects shared good n) (same_number q p e) (holds q g)))) (within q g)
