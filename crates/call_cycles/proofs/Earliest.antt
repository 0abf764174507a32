-- The first of some places when there is one more.
use Rattle.std.proofs.Common.{◌≡◌, ◌⊎◌, inl, inr, ℕ, zero, suc, List, [], ◌∷◌, ◌++◌, Some, None, length, refl, sym, subst, arith}
use Rattle.rvt_tree.specs.declared.places.Place.{Place}
use Rattle.call_graph.specs.Graphs.{At}
use Rattle.call_graph.proofs.Lists.{append_keeps, push_new, push_cases}
use Rattle.file_typing.specs.CallCycles.{IsNotBehind}
use Rattle.call_cycles.specs.FirstPlaces.{IsFirstOf}

pub not_behind_through : (a b c : Place) → IsNotBehind a b → IsNotBehind b c → IsNotBehind a c
not_behind_through a b c h k = grind arith

not_behind_itself : (a b : Place) → b ≡ a → IsNotBehind a b
not_behind_itself a b e = subst (λ p. IsNotBehind a p) (sym e) (inr (refl, omega arith))

pub first_alone : (places : List Place) (place : Place) → IsFirstOf places None → IsFirstOf (places ++ place ∷ []) (Some place)
first_alone places place none = subst (λ ps. IsFirstOf (ps ++ place ∷ []) (Some place)) (sym none) ((0, refl), alone) where
  alone : (k : ℕ) (other : Place) → At (place ∷ []) k other → IsNotBehind place other
  alone zero other h = not_behind_itself place other (cc)
  alone (suc k) other h = absurd (let q : None ≡ Some other = h in cc)

pub first_among : (places : List Place) (first place earlier : Place) → IsFirstOf places (Some first) → (earlier ≡ first) ⊎ (earlier ≡ place) → IsNotBehind earlier first → IsNotBehind earlier place → IsFirstOf (places ++ place ∷ []) (Some earlier)
first_among places first place earlier old one left right = (there one, before) where
  there : (earlier ≡ first) ⊎ (earlier ≡ place) → (k : ℕ) × At (places ++ place ∷ []) k earlier
  there (inl e) = (old.0.0, subst (λ p. At (places ++ place ∷ []) old.0.0 p) (sym e) (append_keeps places (place ∷ []) old.0.0 first old.0.1))
  there (inr e) = (length places, subst (λ p. At (places ++ place ∷ []) (length places) p) (sym e) (push_new places place))

  before : (k : ℕ) (other : Place) → At (places ++ place ∷ []) k other → IsNotBehind earlier other
  before k other h = elim (push_cases places place k other h) [
    | inl a ↦ not_behind_through earlier first other left (old.1 k other a)
    | inr w ↦ subst (λ p. IsNotBehind earlier p) (sym w.1) right
  ]
