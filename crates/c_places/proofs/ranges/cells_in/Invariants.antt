use Rattle.std.proofs.Common.{◌≡◌, ◌++◌, drop}
use Rattle.c_places.specs.Ranges.{cells_in_ranges}
use Rattle.c_places.proofs.ranges.cells_in.Given as goal

abbrev pub invariant-loop-range : goal.invariant-loop-range
invariant-loop-range l = l.out.items ++ cells_in_ranges (drop l.range-index l.ranges) l.store ≡ cells_in_ranges l.ranges l.store
