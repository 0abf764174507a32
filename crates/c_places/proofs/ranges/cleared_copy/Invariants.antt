use Rattle.std.proofs.Common.{◌≡◌, ◌++◌, drop, map}
use Rattle.c_meaning.specs.Stores.{cleared}
use Rattle.c_places.proofs.ranges.cleared_copy.Given as goal

abbrev pub invariant-loop-cell : goal.invariant-loop-cell
invariant-loop-cell l = l.copy.items ++ map cleared (drop l.cell-index l.cells) ≡ map cleared l.cells
