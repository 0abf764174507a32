use Rattle.std.proofs.Common.{◌≡◌, ◌++◌, drop, map}
use Rattle.c_meaning.specs.Runs.{zero_cell}
use Rattle.joint_programs.proofs.arrays.zeros.Given as goal

abbrev pub invariant-loop-cell : goal.invariant-loop-cell
invariant-loop-cell l = l.zeros.items ++ map zero_cell (drop l.cell-index l.cells) ≡ map zero_cell l.cells
