use Rattle.std.proofs.Common.{◌≡◌, ℕ, ◌<◌, slice_index_or, pos, true}
use Rattle.std.specs.Prelude.{Contains}
use Rattle.clause_db.specs.Literal.{variable_of, opposite}
use Rattle.clause_db.specs.Resolution.{ClashesAt}
use Rattle.chain_resolution.specs.Marked.{marked}
use Rattle.chain_resolution.proofs.table.clashes_only_at.Given as goal

abbrev pub invariant-loop-place : goal.invariant-loop-place
invariant-loop-place l = record {
  -- a clash of a literal that was passed is at the pivot, and was found
  passed : (p : ℕ) → p < l.place → Contains (marked l.table) (opposite (slice_index_or l.other p (pos 0))) → (variable_of (slice_index_or l.other p (pos 0)) ≡ l.pivot) × (l.found ≡ true);
  witness : l.found ≡ true → ClashesAt l.pivot (marked l.table) l.other;
}
