use Rattle.clause_db.specs.Log.{literal_lists}
use Rattle.clause_db.proofs.Reading.{IsLargestTo}
use Rattle.clause_db.proofs.variables.largest_variable.Given as goal

abbrev pub invariant-loop-place : goal.invariant-loop-place
invariant-loop-place l = IsLargestTo (literal_lists l.clauses) l.place l.largest
