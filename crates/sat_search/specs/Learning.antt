use Rattle.std.specs.Prelude.{ℕ, ◌-◌, ◌<◌, ◌≤◌, List, ℤ, length, slice_index}
use Rattle.clause_db.specs.Literal.{variable_of}
use Rattle.clause_db.specs.Numbered.{IsNumbered}
use Rattle.clause_db.specs.Resolution.{ClashesOnlyAt, IsResolvent}
use Rattle.unit_propagation.specs.Places.{literal_at}
use Rattle.unit_propagation.specs.Quiet.{IsReason, HasReasons, IsQuietBeforeDecisions}

-- the literal at this place of the trail has a reason among the clauses
abbrev pub HasReasonAt : List (List ℤ) → List ℤ → List ℕ → ℕ → Type 0
HasReasonAt clauses trail reasons p =
    (clause : List ℤ) × IsNumbered clauses (slice_index reasons (variable_of (literal_at trail p))) clause × IsReason trail p clause

-- one resolution with a numbered clause
pub record IsResolution (clauses : List (List ℤ)) (old : List ℤ) (variable number : ℕ) (new : List ℤ) : Type 0 where
  pub other : List ℤ
  pub numbered : IsNumbered clauses number other
  pub clash : ClashesOnlyAt variable old other
  pub resolvent : IsResolvent variable old other new

-- where a search stands between two steps: each literal has a reason or is a decision, and before each decision
-- propagation was complete
pub record IsSearching (clauses : List (List ℤ)) (trail : List ℤ) (starts reasons : List ℕ) : Type 0 where
  pub has_reasons : HasReasons clauses trail starts reasons
  pub quiet_before : IsQuietBeforeDecisions clauses trail starts
  pub started : (k : ℕ) → k < length starts → slice_index starts k < length trail

-- how many decisions stand before a place
pub record IsLevelAfter (starts : List ℕ) (place level : ℕ) : Type 0 where
  pub within : level ≤ length starts
  pub before : (k : ℕ) → k < level → slice_index starts k < place
  pub behind : level < length starts → place ≤ slice_index starts level

-- the place of the last decision
abbrev pub last_start : List ℕ → ℕ
last_start starts = slice_index starts (length starts - 1)
