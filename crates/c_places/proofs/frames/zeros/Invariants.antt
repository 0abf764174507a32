use Rattle.std.proofs.Common.{◌≡◌, ◌++◌, drop, map}
use Rattle.c_meaning.specs.Runs.{zero_cell}
use Rattle.c_places.proofs.frames.zeros.Given as goal

abbrev pub invariant-loop-cell : goal.invariant-loop-cell
invariant-loop-cell l = l.out ++ map zero_cell (drop l.cell-index l.cells) ≡ map zero_cell l.cells
