use Rattle.std.proofs.Common.{ℕ, slice_get}
use Rattle.twin_laws.specs.Tables.{SameContents}
use Rattle.twin_candidates.proofs.Below.{KeptBelow}
use Rattle.twin_candidates.proofs.contents.unchanged.Given as goal

abbrev pub invariant-loop-number : goal.invariant-loop-number
invariant-loop-number l = KeptBelow (λ (a b : ℕ). SameContents (slice_get l.old a) (slice_get l.new b)) l.partners l.kept.items l.number
