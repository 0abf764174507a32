use Rattle.std.specs.Prelude.{◌≢◌, ℕ, ◌<◌, List, ℤ, length, Contains}
use Rattle.clause_db.specs.Literal.{variable_of, opposite}
use Rattle.unit_propagation.specs.Places.{literal_at}
use Rattle.unit_propagation.specs.declared.trail.Value.{Value}
use Rattle.unit_propagation.specs.declared.trail.Value.TheVariants.{True, False, Free}

-- neither sign of the literal's variable stands on the trail
abbrev pub IsFree : List ℤ → ℤ → Type 0
IsFree trail l = (p : ℕ) → p < length trail → variable_of (literal_at trail p) ≢ variable_of l

-- what a trail says of a literal
abbrev pub IsValueOf : List ℤ → ℤ → Value → Type 0
IsValueOf trail l True = Contains trail l
IsValueOf trail l False = Contains trail (opposite l)
IsValueOf trail l Free = IsFree trail l
