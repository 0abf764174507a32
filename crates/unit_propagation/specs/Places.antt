use Rattle.std.specs.Prelude.{◌≡◌, ℕ, ◌+◌, ◌-◌, ◌<◌, ◌≤◌, List, ℤ, pos, length, slice_index, slice_index_or, sum_by, min}
use Rattle.clause_db.specs.Literal.{variable_of}

-- the literal at a place of the trail
abbrev pub literal_at : List ℤ → ℕ → ℤ
literal_at trail p = slice_index_or trail p (pos 0)

-- Each variable has its place on the trail, counted from 1, or 0 where it is free.
pub record PlacesAreRight (trail : List ℤ) (places : List ℕ) : Type 0 where
  pub of_literal : (p : ℕ) → p < length trail → (0 < variable_of (literal_at trail p)) × (variable_of (literal_at trail p) < length places) × (slice_index places (variable_of (literal_at trail p)) ≡ p + 1)
  pub of_variable : (v : ℕ) → v < length places → 0 < slice_index places v → (slice_index places v ≤ length trail) × (variable_of (literal_at trail (slice_index places v - 1)) ≡ v)
  pub counted : sum_by (min 1) places ≡ length trail

-- Each variable has its literal that is true, or 0 where it is free.
pub record ValuesAreRight (trail : List ℤ) (places : List ℕ) (values : List ℤ) : Type 0 where
  pub of_free : (v : ℕ) → v < length places → slice_index places v ≡ 0 → slice_index_or values v (pos 0) ≡ pos 0
  pub of_known : (v : ℕ) → v < length places → 0 < slice_index places v → slice_index_or values v (pos 0) ≡ literal_at trail (slice_index places v - 1)

-- the decisions stand on the trail one after another
pub record StartsAreRight (starts : List ℕ) (end : ℕ) : Type 0 where
  pub within : (k : ℕ) → k < length starts → slice_index starts k ≤ end
  pub increasing : (j k : ℕ) → j < k → k < length starts → slice_index starts j < slice_index starts k
