-- Lists of locals that are compared from the front.
use Rattle.std.proofs.Common.{◌≡◌, ◌↔◌, List, ◌∷◌, subst}
use Rattle.rvt_tree.specs.declared.pairings.Pairing.{Pairing}
use Rattle.rvt_tree.specs.declared.programs.Local.{Local}
use Rattle.c_meaning.specs.Twins.{SameLocal, SameLocals}

module _ (pairing : Pairing) (Whole : Type 0) where
  pub locals_step : (left right more others : List Local) (x y : Local) → left ≡ x ∷ more → right ≡ y ∷ others → SameLocal pairing x y →
      (SameLocals pairing left right ↔ Whole) → (SameLocals pairing more others ↔ Whole)
  locals_step left right more others x y e f same h =
      let there : SameLocals pairing (x ∷ more) (y ∷ others) ↔ Whole = subst (λ l. SameLocals pairing l (y ∷ others) ↔ Whole) e (subst (λ r. SameLocals pairing left r ↔ Whole) f h) in
      (λ rest. there.0 (same, rest), λ whole. (there.1 whole).1)

  pub locals_differ : (left right more others : List Local) (x y : Local) → left ≡ x ∷ more → right ≡ y ∷ others → (SameLocal pairing x y → ⊥) →
      (SameLocals pairing left right ↔ Whole) → Whole → ⊥
  locals_differ left right more others x y e f other h whole =
      let there : SameLocals pairing (x ∷ more) (y ∷ others) = subst (λ l. SameLocals pairing l (y ∷ others)) e (subst (λ r. SameLocals pairing left r) f (h.1 whole)) in
      other there.0
