use Rattle.std.specs.Prelude.{◌≡◌, ℕ, ◌<◌, ◌≤◌, ◌++◌, List, ℤ, length, Contains, All, Option, Some, None}
use Rattle.clause_db.specs.Literal.{variable_of, opposite, IsOrdered}
use Rattle.clause_db.specs.Numbered.{IsNumbered}
use Rattle.unit_propagation.specs.Places.{literal_at}
use Rattle.unit_propagation.specs.Truth.{IsFree}
use Rattle.unit_propagation.specs.Quiet.{IsFalseClause, IsQuiet}
use Rattle.unit_propagation.specs.declared.trail.Value.{Value}
use Rattle.unit_propagation.specs.declared.trail.Value.TheVariants.{True, False, Free}

-- what stands at a place, where the value of the literal there is not false, or the end
abbrev pub StandsAt : List ℤ → List ℤ → ℕ → Value → Type 0
StandsAt trail clause place True = (place < length clause) × Contains trail (literal_at clause place)
StandsAt trail clause place False = place ≡ length clause
StandsAt trail clause place Free = (place < length clause) × IsFree trail (literal_at clause place)

-- the first place from here on whose literal is not false
pub record IsNext (trail clause : List ℤ) (from place : ℕ) (value : Value) : Type 0 where
  pub forward : from ≤ place
  pub passed : (p : ℕ) → from ≤ p → p < place → Contains trail (opposite (literal_at clause p))
  pub stands : StandsAt trail clause place value

-- the clauses are in order, and their variables are below a bound
abbrev pub FitsVariables : ℕ → List (List ℤ) → Type 0
FitsVariables bound clauses =
    All (λ c. IsOrdered c × All (λ l. (0 < variable_of l) × (variable_of l < bound)) c) clauses

-- the old trail with more literals behind it
abbrev pub Extends : List ℤ → List ℤ → Type 0
Extends old new = (more : List ℤ) × (new ≡ old ++ more)

-- the number is that of a false clause, or nothing is left to propagate
abbrev pub IsOutcome : List (List ℤ) → List ℤ → Option ℕ → Type 0
IsOutcome clauses trail (Some number) = (clause : List ℤ) × IsNumbered clauses number clause × IsFalseClause trail clause
IsOutcome clauses trail None = IsQuiet trail clauses
