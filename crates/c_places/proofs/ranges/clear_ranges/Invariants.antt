use Rattle.std.proofs.Common.{◌≡◌, drop}
use Rattle.c_places.specs.Ranges.{with_cleared_ranges}
use Rattle.c_places.proofs.ranges.clear_ranges.Given as goal

abbrev pub invariant-loop-range : goal.invariant-loop-range
invariant-loop-range l = with_cleared_ranges (drop l.range-index l.ranges) l.store ≡ with_cleared_ranges l.ranges l.initial.store
