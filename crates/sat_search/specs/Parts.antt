-- A learnt clause is made shorter, by resolutions more.
use Rattle.std.specs.Prelude.{ℕ, ◌≤◌, List, ℤ, slice_index, Contains}
use Rattle.clause_db.specs.Literal.{variable_of}
use Rattle.clause_db.specs.Log.{ResolvesTo}

-- the one clause is a part of the other, and has all its literals whose place on the trail is not below a bound
pub record IsPartFrom (places : List ℕ) (bound : ℕ) (long short : List ℤ) : Type 0 where
  pub part : (l : ℤ) → Contains short l → Contains long l
  pub kept : (l : ℤ) → Contains long l → bound ≤ slice_index places (variable_of l) → Contains short l

-- what resolves to the one clause by the first pivots resolves to the other by all of them
abbrev pub ResolvesOn : List (List ℤ) → List (ℕ × ℕ) → List ℤ → List (ℕ × ℕ) → List ℤ → Type 0
ResolvesOn clauses pivots clause all new =
    (start : List ℤ) → ResolvesTo clauses start pivots clause → ResolvesTo clauses start all new
