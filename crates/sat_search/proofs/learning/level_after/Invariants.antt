use Rattle.std.proofs.Common.{ℕ, ◌<◌, ◌≤◌, ◌-◌, length, slice_index}
use Rattle.sat_search.proofs.learning.level_after.Given as goal

abbrev pub invariant-loop-level : goal.invariant-loop-level
invariant-loop-level l = record {
  within : l.level ≤ length l.trail.starts.items;
  before : (k : ℕ) → k < l.level → slice_index l.trail.starts.items k < l.place;
}

abbrev pub decreases-loop-level : goal.decreases-loop-level
decreases-loop-level l = length l.trail.starts.items - l.level
