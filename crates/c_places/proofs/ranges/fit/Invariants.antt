use Rattle.std.proofs.Common.{◌≡◌, drop}
use Rattle.c_places.specs.Ranges.{fits}
use Rattle.c_places.proofs.ranges.fit.Given as goal

abbrev pub invariant-loop-range : goal.invariant-loop-range
invariant-loop-range l = fits (drop l.range-index l.ranges) l.left l.store ≡ fits l.ranges l.cells l.store
