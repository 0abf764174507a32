use Rattle.std.specs.Prelude.{◌≡◌, ℕ, ◌+◌, ℤ, List, slice_get, Some}

-- the clause with this number, counted from 1
abbrev pub IsNumbered : List (List ℤ) → ℕ → List ℤ → Type 0
IsNumbered clauses number clause = (k : ℕ) × (number ≡ k + 1) × (slice_get clauses k ≡ Some clause)
