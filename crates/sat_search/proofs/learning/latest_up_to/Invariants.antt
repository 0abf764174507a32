use Rattle.std.proofs.Common.{ℕ, ◌<◌, ◌≤◌}
use Rattle.clause_db.specs.Literal.{variable_of}
use Rattle.chain_resolution.specs.Marked.{marked, Mentions}
use Rattle.unit_propagation.specs.Places.{literal_at}
use Rattle.sat_search.proofs.learning.latest_up_to.Given as goal

abbrev pub invariant-loop-place : goal.invariant-loop-place
invariant-loop-place l = record {
  within : l.place ≤ l.from;
  none : (p : ℕ) → l.place ≤ p → p < l.from → Mentions (marked l.marks.table.items) (variable_of (literal_at l.trail.literals.items p)) → ⊥;
}

abbrev pub decreases-loop-place : goal.decreases-loop-place
decreases-loop-place l = l.place
