use Rattle.sym_spots.specs.Loops.{IsIndexing}
use Rattle.sym_spots.proofs.indexes.indexed.Given as goal

abbrev pub invariant-loop-at : goal.invariant-loop-at
invariant-loop-at l = IsIndexing l.registers l.initial.circuit l.circuit l.initial.aims.items l.aims.items l.inside l.indexes l.at
