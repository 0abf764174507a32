use Rattle.std.proofs.Common.{◌≡◌, ◌++◌, length}
use Rattle.clause_db.specs.Log.{literal_lists, results}
use Rattle.refutation_check.specs.Budget.{opposites_outside}
use Rattle.refutation_check.specs.Runs.{IsQuietRun, AreDecidedFrom, AreFalseWithin, GoesOn}
use Rattle.refutation_check.proofs.tries.assume_part.Given as goal

abbrev pub invariant-loop-place : goal.invariant-loop-place
invariant-loop-place l = record {
  run : IsQuietRun (literal_lists l.clauses.list.items ++ results l.before) l.trail l.watches;
  decided : AreDecidedFrom (opposites_outside l.order.literals.items l.left_out.from l.left_out.to) l.trail;
  false_there : AreFalseWithin l.order.literals.items l.fn.part.from l.place l.trail.literals.items;
  goes_on : GoesOn l.fn.trail l.trail l.watches.head;
  variables : length l.trail.places.items ≡ length l.fn.trail.places.items;
}
