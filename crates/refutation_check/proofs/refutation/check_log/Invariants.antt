use Rattle.clause_db.specs.Log.{literal_lists}
use Rattle.refutation_check.specs.Faults.{AreDerivedBefore}
use Rattle.refutation_check.proofs.refutation.check_log.Given as goal

abbrev pub invariant-loop-index : goal.invariant-loop-index
invariant-loop-index l = AreDerivedBefore (literal_lists l.clauses.list.items) l.log.lines.items l.index
