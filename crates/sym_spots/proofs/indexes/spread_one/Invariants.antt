use Rattle.sym_spots.specs.Loops.{IsSpreadingOne}
use Rattle.sym_spots.proofs.indexes.spread_one.Given as goal

abbrev pub invariant-loop-at : goal.invariant-loop-at
invariant-loop-at l = IsSpreadingOne l.aim.lit l.size l.initial.circuit l.circuit l.aim.target l.target l.initial.out.items l.out.items l.tests l.at
