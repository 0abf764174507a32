use Rattle.std.specs.Prelude.{◌≡◌, ◌≢◌, ◌⊎◌, ℕ, ◌+◌, ◌<◌, ◌≤◌, ℤ, List, [], ◌++◌, map, take, drop, length, slice_index_or, Option, Some, None}
use Rattle.clause_db.specs.declared.clause.LogLine.{LogLine}
use Rattle.clause_db.specs.Literal.{opposite}
use Rattle.clause_db.specs.Log.{results, IsDerived}
use Rattle.clause_db.specs.Propagation.{Propagates, PropagationRefutes, StrengthensPropagation, IsBudgetLog}
use Rattle.unit_propagation.specs.Places.{literal_at}
use Rattle.refutation_check.specs.Faults.{LineFault}
use Rattle.refutation_check.specs.declared.fault.LogFault.{LogFault}
use Rattle.refutation_check.specs.declared.fault.LogFault.TheVariants.{Line, Memory}

-- the opposites of the literals of a clause before a place, and from another on
abbrev pub opposites_outside : List ℤ → ℕ → ℕ → List ℤ
opposites_outside clause from to = map opposite (take from clause ++ drop to clause)

-- the opposites of all literals of a clause but the one at a place
abbrev pub opposites_but : List ℤ → ℕ → List ℤ
opposites_but clause place = opposites_outside clause place (place + 1)

-- from the opposites of the other literals, propagation comes neither to a contradiction nor to this one
abbrev pub IsNewAt : List (List ℤ) → List ℤ → ℕ → Type 0
IsNewAt earlier clause place =
    (PropagationRefutes earlier (opposites_but clause place) → ⊥) × (Propagates earlier (opposites_but clause place) (literal_at clause place) → ⊥)

-- the clause is new at one of these places
abbrev pub IsNewAmong : List (List ℤ) → List ℤ → ℕ → ℕ → Type 0
IsNewAmong earlier clause from to = (place : ℕ) × (from ≤ place) × (place < to) × IsNewAt earlier clause place

-- the line is derived, and tells propagation something new
abbrev pub IsBudgetLine : List (List ℤ) → LogLine → Type 0
IsBudgetLine earlier line = IsDerived earlier line × StrengthensPropagation earlier line.result.literals.items

-- the fault of a line of a budget log: that of a line, or else that it tells nothing new
abbrev pub BudgetLineFault : List (List ℤ) → LogLine → ℕ → Type 0
BudgetLineFault earlier line cause =
    LineFault earlier line cause ⊎ (IsDerived earlier line × (StrengthensPropagation earlier line.result.literals.items → ⊥) × (cause ≡ 55))

-- a line is one of a budget log, or has a fault
abbrev pub IsBudgetVerdict : List (List ℤ) → LogLine → Option ℕ → Type 0
IsBudgetVerdict earlier line None = IsBudgetLine earlier line
IsBudgetVerdict earlier line (Some cause) = BudgetLineFault earlier line cause

-- the lines before this one are lines of a budget log
abbrev pub AreBudgetLinesBefore : List (List ℤ) → List LogLine → ℕ → Type 0
AreBudgetLinesBefore clauses lines end =
    (j : ℕ) (d : LogLine) → j < end → IsBudgetLine (clauses ++ results (take j lines)) (slice_index_or lines j d)

-- the first line with a fault
abbrev pub IsFirstBudgetLineFault : List (List ℤ) → List LogLine → ℕ → ℕ → Type 0
IsFirstBudgetLineFault clauses lines number cause =
    (k : ℕ) × (number ≡ k + 1) × (k < length lines) × AreBudgetLinesBefore clauses lines k × ((d : LogLine) → BudgetLineFault (clauses ++ results (take k lines)) (slice_index_or lines k d) cause)

-- why a log is no budget log of a limit: the number of its lines, or else that propagation refutes the clauses,
-- or else its first line with a fault
abbrev pub IsFirstBudgetFault : List (List ℤ) → List LogLine → ℕ → LogFault → Type 0
IsFirstBudgetFault clauses lines limit (Line number cause) =
    ((length lines ≢ limit) × (number ≡ 0) × (cause ≡ 56)) ⊎ ((length lines ≡ limit) × ((PropagationRefutes clauses [] × (number ≡ 0) × (cause ≡ 57)) ⊎ ((PropagationRefutes clauses [] → ⊥) × IsFirstBudgetLineFault clauses lines number cause)))
IsFirstBudgetFault clauses lines limit Memory = Unit {0}

-- the fault of a line tells that the log is no budget log; want of memory tells nothing
abbrev pub IsBudgetRefusal : List (List ℤ) → List LogLine → ℕ → LogFault → Type 0
IsBudgetRefusal clauses lines limit (Line number cause) = IsBudgetLog clauses lines limit → ⊥
IsBudgetRefusal clauses lines limit Memory = Unit {0}
