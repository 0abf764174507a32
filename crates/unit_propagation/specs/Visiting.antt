-- The clauses that watch a literal are looked at one after another, once it is false.
use Rattle.std.specs.Prelude.{◌≡◌, ◌≢◌, ◌⊎◌, ℕ, ◌+◌, ◌*◌, ◌<◌, ◌≤◌, List, [], ℤ, length, slice_index, slice_index_or, Contains, Option, Some, None}
use Rattle.clause_db.specs.Literal.{opposite}
use Rattle.clause_db.specs.Numbered.{IsNumbered}
use Rattle.unit_propagation.specs.Places.{literal_at}
use Rattle.unit_propagation.specs.Truth.{IsFree}
use Rattle.unit_propagation.specs.Quiet.{IsFalseClause}
use Rattle.unit_propagation.specs.Watching.{watching, Holds, IsCovered, IsWatched}
use Rattle.unit_propagation.specs.declared.watches.Watched.{Watched}
use Rattle.unit_propagation.specs.declared.visits.Look.{Look}
use Rattle.unit_propagation.specs.declared.visits.Look.TheVariants.{Keeps, Moves, Forces, Falsified}
use Rattle.unit_propagation.specs.declared.visits.Step.{Step}
use Rattle.unit_propagation.specs.declared.visits.Step.TheVariants.{At, Fails}

-- the literal is not false
abbrev pub IsNotFalse : List ℤ → ℤ → Type 0
IsNotFalse trail l = Contains trail (opposite l) → ⊥

-- all literals of the clause but this one are false
abbrev pub OthersAreFalse : List ℤ → List ℤ → ℤ → Type 0
OthersAreFalse trail clause l = (m : ℤ) → Contains clause m → m ≢ l → Contains trail (opposite m)

-- a literal of the clause that is not false, beside another one
abbrev pub IsReplacement : List ℤ → List ℤ → ℤ → Option ℤ → Type 0
IsReplacement trail clause other (Some l) = Contains clause l × (other ≢ l) × IsNotFalse trail l
IsReplacement trail clause other None = OthersAreFalse trail clause other

-- what is to be done about a clause, where one of its two watched literals may be false, and this is the other
abbrev pub IsLookBeside : List ℤ → List ℤ → ℤ → Look → Type 0
IsLookBeside trail clause other Keeps = Contains trail other
IsLookBeside trail clause other (Moves a b) = (a ≡ other) × Contains clause b × (a ≢ b) × IsNotFalse trail b
IsLookBeside trail clause other (Forces a) = Contains clause a × IsFree trail a × OthersAreFalse trail clause a
IsLookBeside trail clause other Falsified = IsFalseClause trail clause

-- one of two watched literals is this one, and the other is that one
abbrev pub IsBeside : Watched → ℤ → ℤ → Type 0
IsBeside watched l other =
    ((watched.first ≡ l) × (watched.second ≡ other)) ⊎ ((watched.second ≡ l) × (watched.first ≡ other))

-- what is to be done about a clause where a literal became false
abbrev pub IsLook : List ℤ → List ℤ → Watched → ℤ → Look → Type 0
IsLook trail clause watched l Keeps = Holds trail clause ⊎ ((watched.first ≢ l) × (watched.second ≢ l))
IsLook trail clause watched l (Moves a b) = IsBeside watched l a × Contains clause b × (a ≢ b) × IsNotFalse trail b
IsLook trail clause watched l (Forces a) = Contains clause a × IsFree trail a × OthersAreFalse trail clause a
IsLook trail clause watched l Falsified = IsFalseClause trail clause

-- the literal is not watched
abbrev pub WatchesNot : Option Watched → ℤ → Type 0
WatchesNot None l = Unit {0}
WatchesNot (Some watched) l = (watched.first ≢ l) × (watched.second ≢ l)

-- this literal is watched, and beside it that one
abbrev pub WatchesBeside : Option Watched → ℤ → ℤ → Type 0
WatchesBeside None l other = ⊥
WatchesBeside (Some watched) l other = IsBeside watched l other

-- the same for the clause at an index
abbrev pub IsLookAt : List (List ℤ) → List ℤ → List (Option Watched) → ℕ → ℤ → Look → Type 0
IsLookAt clauses trail pairs index l Keeps =
    index < length pairs → Holds trail (slice_index_or clauses index []) ⊎ WatchesNot (slice_index_or pairs index None) l
IsLookAt clauses trail pairs index l (Moves a b) =
    (index < length pairs) × WatchesBeside (slice_index_or pairs index None) l a × Contains (slice_index_or clauses index []) b × (a ≢ b) × IsNotFalse trail b
IsLookAt clauses trail pairs index l (Forces a) =
    (index < length pairs) × Contains (slice_index_or clauses index []) a × IsFree trail a × OthersAreFalse trail (slice_index_or clauses index []) a
IsLookAt clauses trail pairs index l Falsified =
    (index < length pairs) × IsFalseClause trail (slice_index_or clauses index [])

-- the entry stands in the list from a place on
abbrev pub IsLeft : List ℕ → ℕ → ℕ → Type 0
IsLeft list from entry = (e : ℕ) × (from ≤ e) × (e < length list) × (slice_index list e ≡ entry)

-- the clause is covered, also once one literal more is handled, or it is still to be looked at
abbrev pub IsVisited : List ℤ → List ℕ → ℕ → ℤ → ℕ → List (List ℕ) → List ℕ → ℕ → List ℤ → Option Watched → Type 0
IsVisited trail starts head l from lists pending index clause pair =
    IsCovered trail starts (head + 1) lists pending index clause pair ⊎ (IsCovered trail starts head lists pending index clause pair × IsLeft (watching lists l) from index)

-- of the clauses that watch a literal that became false, those from a place on are still to be looked at
pub record IsVisiting (clauses : List (List ℤ)) (trail : List ℤ) (starts : List ℕ) (variables head : ℕ) (l : ℤ) («from» : ℕ) (pairs : List (Option Watched)) (lists : List (List ℕ)) (pending : List ℕ) : Type 0 where
  pub head_within : head < length trail
  pub falsified : literal_at trail head ≡ opposite l
  pub starts_before : (j : ℕ) → j < length starts → slice_index starts j ≤ head
  pub known : length pairs ≤ length clauses
  pub tables : length lists ≡ 2 * variables
  pub each : (k : ℕ) → k < length pairs → IsVisited trail starts head l «from» lists pending k (slice_index_or clauses k []) (slice_index_or pairs k None)

-- what one step of a visit comes to
abbrev pub IsVisitStep : List (List ℤ) → List ℤ → List ℕ → ℕ → ℕ → ℤ → List (Option Watched) → List (List ℕ) → List ℕ → Step → Type 0
IsVisitStep clauses trail starts variables head l pairs lists pending (At next) =
    IsVisiting clauses trail starts variables head l next pairs lists pending
IsVisitStep clauses trail starts variables head l pairs lists pending (Fails number) =
    IsWatched clauses trail starts variables head pairs lists pending × ((clause : List ℤ) × IsNumbered clauses number clause × IsFalseClause trail clause)

-- the visit comes nearer to its end
abbrev pub IsNearer : ℕ → ℕ → ℕ → Step → Type 0
IsNearer old place new (At next) = (place ≤ next) × (new + place < old + next)
IsNearer old place new (Fails number) = Unit {0}

-- what the visit of all comes to
abbrev pub IsVisitEnd : List (List ℤ) → List ℤ → List ℕ → ℕ → ℕ → List (Option Watched) → List (List ℕ) → List ℕ → Option ℕ → Type 0
IsVisitEnd clauses trail starts variables head pairs lists pending None =
    IsWatched clauses trail starts variables (head + 1) pairs lists pending
IsVisitEnd clauses trail starts variables head pairs lists pending (Some number) =
    IsWatched clauses trail starts variables head pairs lists pending × ((clause : List ℤ) × IsNumbered clauses number clause × IsFalseClause trail clause)
