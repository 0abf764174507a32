use Rattle.std.specs.Prelude.{ℕ, ◌-◌, ◌<◌, ◌≤◌, ℤ, List, false, length, slice_index_or}
use Rattle.clause_db.specs.Assignment.{Satisfies}
use Rattle.clause_db.specs.Log.{IsRefutation}
use Rattle.clause_db.specs.Propagation.{IsBudgetLog}
use Rattle.sat_search.specs.declared.found.Found.{Found}
use Rattle.sat_search.specs.declared.found.Found.TheVariants.{Satisfied, Refuted, Budget}

-- what the answer of a search with this limit says of clauses over so many variables: a value for each of
-- them, from 1 on, or a log
abbrev pub IsFound : List (List ℤ) → ℕ → ℕ → Found → Type 0
IsFound clauses variables limit (Satisfied values conflicts) =
    Satisfies (λ v. slice_index_or values.items (v - 1) false) clauses × (variables ≤ length values.items) × (conflicts < limit)
IsFound clauses variables limit (Refuted log) = IsRefutation clauses log.lines.items
IsFound clauses variables limit (Budget log) = IsBudgetLog clauses log.lines.items limit
