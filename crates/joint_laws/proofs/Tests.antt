-- Tests of numbers.
use Rattle.std.proofs.Common.{◌≡◌, ℕ, true, false, nat_eq, ◌⊎◌, inl, inr, sym, ◌∙◌}
use Rattle.std.proofs.lemmas.Bool.Decides.{eqb_tells}

-- two tests of which each passes where the other does
pub tests_alike : (a b c d : ℕ) → (a ≡ b → c ≡ d) → (c ≡ d → a ≡ b) → nat_eq a b ≡ nat_eq c d
tests_alike a b c d there back = by (eqb_tells a b) (eqb_tells c d)
  where
    by : ((nat_eq a b ≡ true) × (a ≡ b)) ⊎ ((nat_eq a b ≡ false) × (a ≡ b → ⊥)) → ((nat_eq c d ≡ true) × (c ≡ d)) ⊎ ((nat_eq c d ≡ false) × (c ≡ d → ⊥)) → nat_eq a b ≡ nat_eq c d
    by (inl x) (inl y) = x.0 ∙ sym y.0
    by (inr x) (inr y) = x.0 ∙ sym y.0
    by (inl x) (inr y) = absurd (y.1 (there x.1))
    by (inr x) (inl y) = absurd (x.1 (back y.1))
