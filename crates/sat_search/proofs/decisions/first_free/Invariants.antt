use Rattle.std.proofs.Common.{ℕ, ◌<◌, ◌≤◌, slice_index}
use Rattle.sat_search.proofs.decisions.first_free.Given as goal

abbrev pub invariant-loop-v : goal.invariant-loop-v
invariant-loop-v l = (k : ℕ) → l.from ≤ k → k < l.v → 0 < slice_index l.trail.places.items k
