use Rattle.std.specs.Prelude.{◌≡◌, ◌≢◌, ◌⊎◌, ℕ, ◌+◌, ◌<◌, ℤ, List, [], ◌∷◌, ◌++◌, take, length, slice_index_or, Option, Some, None}
use Rattle.clause_db.specs.declared.clause.LogLine.{LogLine}
use Rattle.clause_db.specs.Literal.{IsOrdered}
use Rattle.clause_db.specs.Resolution.{ClashesOnlyAt, IsResolvent}
use Rattle.clause_db.specs.Numbered.{IsNumbered}
use Rattle.clause_db.specs.Log.{results, IsDerived, IsLog, IsRefutation}
use Rattle.refutation_check.specs.declared.fault.LogFault.{LogFault}
use Rattle.refutation_check.specs.declared.fault.LogFault.TheVariants.{Line, Memory}

-- no clause has the number
abbrev pub HasNoClause : List (List ℤ) → ℕ → Type 0
HasNoClause earlier number = (clause : List ℤ) → IsNumbered earlier number clause → ⊥

-- the first fault of a chain of resolutions, from the left
abbrev pub ChainFault : List (List ℤ) → List ℤ → List (ℕ × ℕ) → List ℤ → ℕ → Type 0
ChainFault earlier from [] to cause = (from ≢ to) × (cause ≡ 53)
ChainFault earlier from (pivot ∷ pivots) to cause =
    (HasNoClause earlier pivot.1 × (cause ≡ 51)) ⊎ ((other : List ℤ) × IsNumbered earlier pivot.1 other × (((ClashesOnlyAt pivot.0 from other → ⊥) × (cause ≡ 52)) ⊎ ((next : List ℤ) × ClashesOnlyAt pivot.0 from other × IsResolvent pivot.0 from other next × IsOrdered next × ChainFault earlier next pivots to cause)))

-- the fault of a line
abbrev pub LineFault : List (List ℤ) → LogLine → ℕ → Type 0
LineFault earlier line cause =
    (HasNoClause earlier line.first × (cause ≡ 51)) ⊎ ((start : List ℤ) × IsNumbered earlier line.first start × ChainFault earlier start line.pivots.items line.result.literals.items cause)

-- a line is derived, or has a fault
abbrev pub IsVerdict : List (List ℤ) → LogLine → Option ℕ → Type 0
IsVerdict earlier line None = IsDerived earlier line
IsVerdict earlier line (Some cause) = LineFault earlier line cause

-- the lines before this one are derived
abbrev pub AreDerivedBefore : List (List ℤ) → List LogLine → ℕ → Type 0
AreDerivedBefore clauses lines end =
    (j : ℕ) (d : LogLine) → j < end → IsDerived (clauses ++ results (take j lines)) (slice_index_or lines j d)

-- the first bad line of what should be a refutation: a line with a fault, or the last one, where it is not
-- empty, or none
abbrev pub IsFirstFault : List (List ℤ) → List LogLine → LogFault → Type 0
IsFirstFault clauses lines (Line number cause) =
    ((k : ℕ) × (number ≡ k + 1) × (k < length lines) × AreDerivedBefore clauses lines k × ((d : LogLine) → LineFault (clauses ++ results (take k lines)) (slice_index_or lines k d) cause)) ⊎ (IsLog clauses lines × (IsRefutation clauses lines → ⊥) × (number ≡ length lines) × (cause ≡ 54))
IsFirstFault clauses lines Memory = Unit {0}

-- the fault of a line tells that the log is no refutation; want of memory tells nothing
abbrev pub IsRefusal : List (List ℤ) → List LogLine → LogFault → Type 0
IsRefusal clauses lines (Line number cause) = IsRefutation clauses lines → ⊥
IsRefusal clauses lines Memory = Unit {0}
