use Rattle.std.proofs.Common.{ℕ, slice_get}
use Rattle.twin_candidates.specs.Marks.{AvoidsMarked}
use Rattle.twin_candidates.proofs.Below.{KeptBelow}
use Rattle.twin_candidates.proofs.functions.avoiding.Given as goal

abbrev pub invariant-loop-number : goal.invariant-loop-number
invariant-loop-number l = KeptBelow (λ (f g : ℕ). AvoidsMarked l.marks (slice_get l.functions f)) l.partners l.kept.items l.number
