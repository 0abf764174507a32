use Rattle.std.proofs.Common.{◌≡◌, ℕ, ◌<◌, ◌≤◌, ◌+◌, ◌-◌, length, slice_index_or, pos, true}
use Rattle.clause_db.specs.Literal.{variable_of, opposite}
use Rattle.clause_db.specs.Resolution.{ClashesAt}
use Rattle.clause_db.proofs.resolution.clashes_only_at.Given as goal

abbrev pub invariant-loop-i : goal.invariant-loop-i
invariant-loop-i l = record {
  first_within : l.i ≤ length l.a;
  second_within : l.j ≤ length l.b;
  -- a clash of a literal that was passed is at the pivot, and was found
  passed : (p q : ℕ) → p < l.i → q < length l.b → slice_index_or l.b q (pos 0) ≡ opposite (slice_index_or l.a p (pos 0)) → (variable_of (slice_index_or l.a p (pos 0)) ≡ l.pivot) × (l.found ≡ true);
  -- what is left of the first clause stands above what was passed of the second
  above : (p q : ℕ) → l.i ≤ p → p < length l.a → q < l.j → variable_of (slice_index_or l.b q (pos 0)) < variable_of (slice_index_or l.a p (pos 0));
  witness : l.found ≡ true → ClashesAt l.pivot l.a l.b;
}

abbrev pub decreases-loop-i : goal.decreases-loop-i
decreases-loop-i l = length l.a - l.i + (length l.b - l.j)
