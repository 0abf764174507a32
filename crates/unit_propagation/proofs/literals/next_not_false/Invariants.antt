use Rattle.std.proofs.Common.{ℕ, ◌<◌, ◌≤◌}
use Rattle.std.specs.Prelude.{Contains}
use Rattle.clause_db.specs.Literal.{opposite}
use Rattle.unit_propagation.specs.Places.{literal_at}
use Rattle.unit_propagation.proofs.literals.next_not_false.Given as goal

abbrev pub invariant-loop-place : goal.invariant-loop-place
invariant-loop-place l =
    (p : ℕ) → l.from ≤ p → p < l.place → Contains l.trail.literals.items (opposite (literal_at l.clause p))
