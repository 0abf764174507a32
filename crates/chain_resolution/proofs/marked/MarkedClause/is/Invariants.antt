use Rattle.std.proofs.Common.{ℕ, ◌<◌, slice_index_or, pos}
use Rattle.std.specs.Prelude.{Contains}
use Rattle.chain_resolution.specs.Marked.{marked}
use Rattle.chain_resolution.proofs.marked.MarkedClause.is.Given as goal

abbrev pub invariant-loop-place : goal.invariant-loop-place
invariant-loop-place l = (p : ℕ) → p < l.place → Contains (marked l.self.table.items) (slice_index_or l.clause.literals.items p (pos 0))
