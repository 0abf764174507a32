use Rattle.twin_candidates.specs.Marks.{MarksBelow}
use Rattle.twin_candidates.proofs.types.changed_types.Given as goal

abbrev pub invariant-loop-number : goal.invariant-loop-number
invariant-loop-number l = MarksBelow l.program l.partners l.marks l.number
