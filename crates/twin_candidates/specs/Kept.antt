-- Lists of partners of which some were left out.
use Rattle.std.specs.Prelude.{◌≡◌, ◌↔◌, ℕ, List, Option, Some}
use Rattle.rvt_tree.specs.Same.{ArePaired}

-- those pairs are left of which this holds, and no others
abbrev pub KeepsOnly : (ℕ → ℕ → Type 0) → List (Option ℕ) → List (Option ℕ) → Type 0
KeepsOnly Keeps before after = (a b : ℕ) → ArePaired after a b ↔ (ArePaired before a b × Keeps a b)

-- so is the partner of the one of this number
abbrev pub IsKept : (ℕ → Type 0) → List (Option ℕ) → ℕ → Option ℕ → Type 0
IsKept Keeps before number after = (b : ℕ) → (after ≡ Some b) ↔ (ArePaired before number b × Keeps b)
