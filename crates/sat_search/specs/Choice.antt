use Rattle.std.specs.Prelude.{ℕ, ◌<◌, List, ℤ, length, slice_index, Option, Some, None}
use Rattle.clause_db.specs.Literal.{variable_of}
use Rattle.unit_propagation.specs.Truth.{IsFree}

-- a literal whose variable is free, or none where each variable of a table has a place on the trail
abbrev pub IsChoice : List ℤ → List ℕ → Option ℤ → Type 0
IsChoice trail places (Some l) = (0 < variable_of l) × (variable_of l < length places) × IsFree trail l
IsChoice trail places None = (v : ℕ) → 0 < v → v < length places → 0 < slice_index places v
