use Rattle.std.proofs.Common.{ℕ, ◌<◌, ◌≢◌}
use Rattle.std.specs.Prelude.{Contains}
use Rattle.chain_resolution.specs.Marked.{marked}
use Rattle.clause_db.specs.Literal.{variable_of}
use Rattle.unit_propagation.specs.Places.{literal_at}
use Rattle.sat_search.proofs.shortening.is_within.Given as goal

abbrev pub invariant-loop-place : goal.invariant-loop-place
invariant-loop-place l =
    (p : ℕ) → p < l.place → variable_of (literal_at l.other.literals.items p) ≢ l.pivot → Contains (marked l.marks.table.items) (literal_at l.other.literals.items p)
