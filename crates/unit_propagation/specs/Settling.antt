-- Whole clauses are looked at, so that they can watch two literals.
use Rattle.std.specs.Prelude.{◌≢◌, ℕ, ◌<◌, List, [], ℤ, length, slice_index, slice_index_or, Contains, Option, Some, None}
use Rattle.clause_db.specs.Numbered.{IsNumbered}
use Rattle.unit_propagation.specs.Places.{literal_at}
use Rattle.unit_propagation.specs.Truth.{IsFree}
use Rattle.unit_propagation.specs.Quiet.{IsFalseClause}
use Rattle.unit_propagation.specs.Watching.{Holds, IsWatched}
use Rattle.unit_propagation.specs.Visiting.{IsNotFalse, OthersAreFalse}
use Rattle.unit_propagation.specs.declared.watches.Watched.{Watched}
use Rattle.unit_propagation.specs.declared.visits.Step.{Step}
use Rattle.unit_propagation.specs.declared.visits.Step.TheVariants.{At, Fails}
use Rattle.unit_propagation.specs.declared.settling.Standing.{Standing}
use Rattle.unit_propagation.specs.declared.settling.Standing.TheVariants.{Two, OneTrue, Forces, AllFalse}
use Rattle.unit_propagation.specs.declared.settling.Settled.{Settled}
use Rattle.unit_propagation.specs.declared.settling.Settled.TheVariants.{Guarded, Satisfied, Falsified}

-- the place, counted from 1, stands behind every decision
abbrev pub IsBehindDecisions : List ℕ → ℕ → Type 0
IsBehindDecisions starts place = (j : ℕ) → j < length starts → slice_index starts j < place

-- what a trail says of a whole clause
abbrev pub IsStanding : List ℤ → List ℤ → Standing → Type 0
IsStanding trail clause (Two a b) = Contains clause a × Contains clause b × (a ≢ b) × IsNotFalse trail a × IsNotFalse trail b
IsStanding trail clause (OneTrue place) = (place < length clause) × Contains trail (literal_at clause place)
IsStanding trail clause (Forces l) = Contains clause l × IsFree trail l × OthersAreFalse trail clause l
IsStanding trail clause AllFalse = IsFalseClause trail clause

-- what became of a clause that was looked at as a whole
abbrev pub IsSettled : List ℤ → List ℤ → Option Watched → Settled → Type 0
IsSettled trail clause pair Guarded = pair ≢ None
IsSettled trail clause pair Satisfied = Holds trail clause
IsSettled trail clause pair Falsified = IsFalseClause trail clause

-- the pending clauses before a place have been looked at
pub record AreSettled (clauses : List (List ℤ)) (trail : List ℤ) (starts : List ℕ) (variables head place : ℕ) (pairs : List (Option Watched)) (lists : List (List ℕ)) (pending : List ℕ) : Type 0 where
  pub watched : IsWatched clauses trail starts variables head pairs lists pending
  pub hold : (e : ℕ) → e < place → e < length pending → slice_index pending e < length pairs → Holds trail (slice_index_or clauses (slice_index pending e) [])

-- what one step comes to
abbrev pub IsSettleStep : List (List ℤ) → List ℤ → List ℕ → ℕ → ℕ → List (Option Watched) → List (List ℕ) → List ℕ → Step → Type 0
IsSettleStep clauses trail starts variables head pairs lists pending (At next) =
    AreSettled clauses trail starts variables head next pairs lists pending
IsSettleStep clauses trail starts variables head pairs lists pending (Fails number) =
    IsWatched clauses trail starts variables head pairs lists pending × ((clause : List ℤ) × IsNumbered clauses number clause × IsFalseClause trail clause)

-- each pending clause has a true literal
abbrev pub PendingHold : List (List ℤ) → List ℤ → List (Option Watched) → List ℕ → Type 0
PendingHold clauses trail pairs pending =
    (k : ℕ) → k < length pairs → Contains pending k → Holds trail (slice_index_or clauses k [])

-- what all steps come to
abbrev pub IsSettleEnd : List (List ℤ) → List ℤ → List ℕ → ℕ → ℕ → List (Option Watched) → List (List ℕ) → List ℕ → Option ℕ → Type 0
IsSettleEnd clauses trail starts variables head pairs lists pending None =
    IsWatched clauses trail starts variables head pairs lists pending × PendingHold clauses trail pairs pending
IsSettleEnd clauses trail starts variables head pairs lists pending (Some number) =
    IsWatched clauses trail starts variables head pairs lists pending × ((clause : List ℤ) × IsNumbered clauses number clause × IsFalseClause trail clause)
