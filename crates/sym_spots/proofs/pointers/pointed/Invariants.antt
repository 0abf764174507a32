use Rattle.sym_spots.specs.Loops.{IsPointing}
use Rattle.sym_spots.proofs.pointers.pointed.Given as goal

abbrev pub invariant-loop-at : goal.invariant-loop-at
invariant-loop-at l = IsPointing l.object l.cell l.cells l.initial.circuit l.circuit l.starts l.aims.items l.any l.at
