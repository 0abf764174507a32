-- What is so of the first elements of a list, by their numbers.
use Rattle.std.proofs.Common.{◌≡◌, ℕ, ◌<◌, ◌≤◌, List, length, slice_get, Some, None, sym, ◌∙◌, ◌⊎◌, inl, inr, arith}
use Rattle.std.proofs.lemmas.Bool.{cases_lt}
use Rattle.std.proofs.lemmas.Option.{slice_get_past}

-- it is so of the first so many elements
abbrev pub AllBelow : {X : Type 0} → (ℕ → X → Type 0) → List X → ℕ → Type 0
AllBelow {X} P xs count = (n : ℕ) (x : X) → n < count → slice_get xs n ≡ Some x → P n x

-- of all
pub of_all : {X : Type 0} (P : ℕ → X → Type 0) (xs : List X) (k : ℕ) → length xs ≤ k → AllBelow P xs k → (n : ℕ) (x : X) → slice_get xs n ≡ Some x → P n x
of_all {X} P xs k whole all n x there = by (cases_lt n (length xs))
  where
    by : (n < length xs) ⊎ (length xs ≤ n) → P n x
    by (inl less) = all n x (omega (arith, less, whole)) there
    by (inr more) =
        let past : slice_get xs n ≡ None = slice_get_past xs n more in
        absurd (let none : Some x ≡ None = sym there ∙ past in cc)
