-- Lists of locals whose types are compared from the front.
use Rattle.std.proofs.Common.{◌≡◌, ◌↔◌, List, ◌∷◌, subst}
use Rattle.rvt_tree.specs.declared.pairings.Pairing.{Pairing}
use Rattle.rvt_tree.specs.declared.programs.Local.{Local}
use Rattle.c_meaning.specs.Twins.{SameType}
use Rattle.rvt_run.specs.Pairs.{SameTypes}

module _ (pairing : Pairing) (Whole : Type 0) where
  pub types_step : (left right more others : List Local) (x y : Local) → left ≡ x ∷ more → right ≡ y ∷ others → SameType pairing x.ty y.ty →
      (SameTypes pairing left right ↔ Whole) → (SameTypes pairing more others ↔ Whole)
  types_step left right more others x y e f same h =
      let there : SameTypes pairing (x ∷ more) (y ∷ others) ↔ Whole = subst (λ l. SameTypes pairing l (y ∷ others) ↔ Whole) e (subst (λ r. SameTypes pairing left r ↔ Whole) f h) in
      (λ rest. there.0 (same, rest), λ whole. (there.1 whole).1)

  pub types_differ : (left right more others : List Local) (x y : Local) → left ≡ x ∷ more → right ≡ y ∷ others → (SameType pairing x.ty y.ty → ⊥) →
      (SameTypes pairing left right ↔ Whole) → Whole → ⊥
  types_differ left right more others x y e f other h whole =
      let there : SameTypes pairing (x ∷ more) (y ∷ others) = subst (λ l. SameTypes pairing l (y ∷ others)) e (subst (λ r. SameTypes pairing left r) f (h.1 whole)) in
      other there.0
