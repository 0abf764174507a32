use Rattle.std.proofs.Common.{◌++◌, take}
use Rattle.clause_db.specs.Log.{literal_lists, results}
use Rattle.refutation_check.specs.Budget.{AreBudgetLinesBefore}
use Rattle.refutation_check.specs.Runs.{IsRootRun}
use Rattle.refutation_check.proofs.budget.check_budget.Given as goal

abbrev pub invariant-loop-index : goal.invariant-loop-index
invariant-loop-index l = record {
  lines : AreBudgetLinesBefore (literal_lists l.clauses.list.items) l.log.lines.items l.index;
  run : IsRootRun (literal_lists l.clauses.list.items ++ results (take l.index l.log.lines.items)) l.trail l.watches;
}
