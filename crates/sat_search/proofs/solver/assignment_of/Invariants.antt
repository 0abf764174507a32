use Rattle.std.proofs.Common.{◌≡◌, ℕ, ◌+◌, ◌-◌, ◌<◌, length, slice_index_or, true, false, pos}
use Rattle.std.specs.Prelude.{Contains, ◌↔◌}
use Rattle.sat_search.proofs.solver.assignment_of.Given as goal

abbrev pub invariant-loop-v : goal.invariant-loop-v
invariant-loop-v l = record {
  size : length l.values.items + 1 ≡ l.v;
  each : (k : ℕ) → 0 < k → k < l.v → (slice_index_or l.values.items (k - 1) false ≡ true) ↔ Contains l.trail.literals.items (pos k);
}
