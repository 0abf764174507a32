use Rattle.std.proofs.Common.{◌≡◌, drop}
use Rattle.c_places.specs.Ranges.{with_ranges}
use Rattle.c_places.proofs.ranges.overwrite_ranges.Given as goal

abbrev pub invariant-loop-range : goal.invariant-loop-range
invariant-loop-range l = with_ranges (drop l.range-index l.ranges) l.left l.store.items ≡ with_ranges l.ranges l.cells l.initial.store.items
