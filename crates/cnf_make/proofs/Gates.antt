-- Only gates are marked.
use Rattle.std.proofs.Common.{◌≡◌, ℕ, zero, suc, Bool, true, false, cond, List, [], ◌∷◌, length, set, get_or, Some, None, refl, ap, ◌∙◌, ◌⊎◌, inl, inr, ⊎_elim}
use Rattle.std.specs.Prelude.{is_some, replicate}
use Rattle.aig_build.specs.declared.lits.Lit.{Lit}
use Rattle.aig_build.specs.Circuits.{Node}
use Rattle.cnf_make.specs.Needed.{node_at, is_marked, marked, operands_marked, spread_from, spread_below, needed}

set_cases : (marks : List Bool) (i m : ℕ) → get_or (set marks i true) m false ≡ true → (m ≡ i) ⊎ (get_or marks m false ≡ true)
set_cases [] i m e = inr e
set_cases (x ∷ xs) zero zero e = inl refl
set_cases (x ∷ xs) zero (suc m) e = inr e
set_cases (x ∷ xs) (suc i) zero e = inr e
set_cases (x ∷ xs) (suc i) (suc m) e = ⊎_elim (λ s. inl (ap suc s)) inr (set_cases xs i m e)

none_marked : (n m : ℕ) → get_or (replicate n false) m false ≡ true → ⊥
none_marked zero m e = cc
none_marked (suc n) zero e = cc
none_marked (suc n) (suc m) e = none_marked n m e

module _ (nodes : List Node) where
  abbrev OnlyGates : List Bool → Type 0
  OnlyGates marks = (m : ℕ) → is_marked marks m ≡ true → is_some (node_at nodes m) ≡ true

  either_only : (b : Bool) (marks : List Bool) (i : ℕ) → (b ≡ true → is_some (node_at nodes i) ≡ true) → OnlyGates marks → OnlyGates (cond b (set marks i true) marks)
  either_only false marks i gate old = old
  either_only true marks i gate old = λ m e. ⊎_elim (λ s. ap (λ j. is_some (node_at nodes j)) s ∙ gate refl) (old m) (set_cases marks i m e)

  marked_only : (marks : List Bool) (lit : Lit) → OnlyGates marks → OnlyGates (marked nodes marks lit)
  marked_only marks lit old = either_only (is_some (node_at nodes lit.node)) marks lit.node (λ e. e) old

  choice_only : (b : Bool) (marks : List Bool) (x : Node) → OnlyGates marks → OnlyGates (cond b (operands_marked nodes marks x) marks)
  choice_only false marks x old = old
  choice_only true marks None old = old
  choice_only true marks (Some g) old = marked_only (marked nodes marks g.0) g.1 (marked_only marks g.0 old)

  below_only : (n : ℕ) (marks : List Bool) → OnlyGates marks → OnlyGates (spread_below nodes n marks)
  below_only zero marks old = old
  below_only (suc n) marks old = below_only n (spread_from nodes marks n) (choice_only (is_marked marks n) marks (node_at nodes n) old)

  pub needed_only : (bad : Lit) (m : ℕ) → is_marked (needed nodes bad) m ≡ true → is_some (node_at nodes m) ≡ true
  unfolding needed
  needed_only bad = below_only (length nodes) _ (marked_only (replicate (length nodes) false) bad (λ m e. absurd (none_marked (length nodes) m e)))
