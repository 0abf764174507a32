use Rattle.std.specs.Prelude.{◌≡◌, ◌≢◌, ℕ, ◌<◌, ◌≤◌, List, ℤ, pos, slice_index, slice_index_or, Contains}
use Rattle.clause_db.specs.Literal.{variable_of}

-- the place on the trail, counted from 1, of the variable that stands at a place of a clause, or 0
abbrev pub place_in : List ℕ → List ℤ → ℕ → ℕ
place_in places clause k = slice_index places (variable_of (slice_index_or clause k (pos 0)))

-- among the first literals of a clause, the latest place on the trail, and the latest but one
pub record IsLatest (places : List ℕ) (clause : List ℤ) (first last second : ℕ) : Type 0 where
  pub in_order : second ≤ last
  pub none_later : (k : ℕ) → k < first → place_in places clause k ≤ last
  pub has_last : 0 < last → (k : ℕ) × (k < first) × (place_in places clause k ≡ last)
  pub one_later : (j k : ℕ) → j < first → k < first → second < place_in places clause j → second < place_in places clause k → j ≡ k
  pub has_second : 0 < second → (j k : ℕ) × (j < first) × (k < first) × (j ≢ k) × (place_in places clause j ≡ second) × (place_in places clause k ≡ last)

-- a literal of the clause stands on the trail behind a place
abbrev pub IsBehind : List ℕ → ℕ → List ℤ → Type 0
IsBehind places start clause = (l : ℤ) × Contains clause l × (start < slice_index places (variable_of l))

-- one literal of the clause does, and no other
pub record IsOneBehind (places : List ℕ) (start : ℕ) (clause : List ℤ) : Type 0 where
  pub one : IsBehind places start clause
  pub no_other : (l m : ℤ) → Contains clause l → Contains clause m → start < slice_index places (variable_of l) → start < slice_index places (variable_of m) → l ≡ m
