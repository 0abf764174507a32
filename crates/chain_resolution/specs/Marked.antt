-- A clause as a table of marks.
use Rattle.std.specs.Prelude.{◌≡◌, ◌≢◌, ◌⊎◌, ◌↔◌, ℕ, zero, suc, ◌<◌, ℤ, pos, negsuc, List, Bool, true, false, length, slice_index, slice_index_or, filter, Contains}
use Rattle.clause_db.specs.Literal.{variable_of}

-- whether a number is a literal: 0 is none
abbrev pub is_literal : ℤ → Bool
is_literal (pos zero) = false
is_literal (pos (suc n)) = true
is_literal (negsuc n) = true

-- the clause whose literals stand in a table
abbrev pub marked : List ℤ → List ℤ
marked table = filter is_literal table

-- each literal of a table stands at its variable
abbrev pub AreAtVariables : List ℤ → Type 0
AreAtVariables table =
    (v : ℕ) → 0 < variable_of (slice_index_or table v (pos 0)) → variable_of (slice_index_or table v (pos 0)) ≡ v

-- nothing stands at the places of a table that are none of these
abbrev pub AreTouched : List ℤ → List ℕ → Type 0
AreTouched table touched =
    (v : ℕ) → ((k : ℕ) → k < length touched → slice_index touched k ≢ v) → slice_index_or table v (pos 0) ≡ pos 0

-- the one clause has the literals of the other but those of a variable
abbrev pub IsWithout : ℕ → List ℤ → List ℤ → Type 0
IsWithout variable old new = (l : ℤ) → Contains new l ↔ (Contains old l × (variable_of l ≢ variable))

-- the one clause has the literals of the other and this one
abbrev pub IsWith : ℤ → List ℤ → List ℤ → Type 0
IsWith literal old new = (l : ℤ) → Contains new l ↔ (Contains old l ⊎ (literal ≡ l))

-- the one clause has the literals of the other, and those of a third one but those of a variable
abbrev pub IsUnionBut : ℕ → List ℤ → List ℤ → List ℤ → Type 0
IsUnionBut variable old other new =
    (l : ℤ) → Contains new l ↔ (Contains old l ⊎ (Contains other l × (variable_of l ≢ variable)))

-- the clause has a literal of the variable
abbrev pub Mentions : List ℤ → ℕ → Type 0
Mentions clause variable = (l : ℤ) × Contains clause l × (variable_of l ≡ variable)
