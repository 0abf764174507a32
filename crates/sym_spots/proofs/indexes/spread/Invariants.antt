use Rattle.sym_spots.specs.Loops.{IsSpreading}
use Rattle.sym_spots.proofs.indexes.spread.Given as goal

abbrev pub invariant-loop-at : goal.invariant-loop-at
invariant-loop-at l = IsSpreading l.size l.tests l.initial.circuit l.circuit l.out.items l.aims l.at
