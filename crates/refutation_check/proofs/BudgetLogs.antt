-- A log with a first fault is no budget log.
use Rattle.std.proofs.Common.{inl, inr, ℕ, ℤ, List, ◌++◌, take, slice_index_or}
use Rattle.clause_db.specs.declared.clause.LogLine.{LogLine}
use Rattle.clause_db.specs.Log.{results}
use Rattle.clause_db.specs.Propagation.{IsBudgetLog}
use Rattle.refutation_check.specs.Budget.{IsFirstBudgetFault, IsFirstBudgetLineFault, IsBudgetRefusal}
use Rattle.refutation_check.specs.declared.fault.LogFault.{LogFault}
use Rattle.refutation_check.specs.declared.fault.LogFault.TheVariants.{Line, Memory}
use Rattle.refutation_check.proofs.Unique.{fault_excludes, some_line}

line_refuses : (clauses : List (List ℤ)) (lines : List LogLine) (limit number cause : ℕ) → IsFirstBudgetLineFault clauses lines number cause → IsBudgetLog clauses lines limit → ⊥
line_refuses clauses lines limit number cause (k, is, within, before, fault) budget =
    let d : LogLine = some_line lines k within in
    elim (fault d) [
      | inl w ↦ fault_excludes (clauses ++ results (take k lines)) (slice_index_or lines k d) cause w (budget.log k d within)
      | inr w ↦ w.1 (budget.each_strengthens k d within)
    ]

pub budget_fault_refuses : (clauses : List (List ℤ)) (lines : List LogLine) (limit : ℕ) (fault : LogFault) → IsFirstBudgetFault clauses lines limit fault → IsBudgetRefusal clauses lines limit fault
budget_fault_refuses clauses lines limit (Line number cause) (inl w) = λ budget. w.0 budget.lines_of_limit
budget_fault_refuses clauses lines limit (Line number cause) (inr (is, inl w)) = λ budget. budget.not_refuted w.0
budget_fault_refuses clauses lines limit (Line number cause) (inr (is, inr w)) = line_refuses clauses lines limit number cause w.1
budget_fault_refuses clauses lines limit Memory w = tt
