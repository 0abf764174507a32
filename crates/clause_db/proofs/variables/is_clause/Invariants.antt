use Rattle.clause_db.proofs.Reading.{IsReadTo}
use Rattle.clause_db.proofs.variables.is_clause.Given as goal

abbrev pub invariant-loop-place : goal.invariant-loop-place
invariant-loop-place l = IsReadTo l.literals l.place l.last
