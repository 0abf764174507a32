use Rattle.sym_spots.specs.Loops.{IsTestingWord}
use Rattle.sym_spots.proofs.indexes.word_tests.Given as goal

abbrev pub invariant-loop-number : goal.invariant-loop-number
invariant-loop-number l = IsTestingWord l.initial.circuit l.circuit l.word l.lits.items l.any l.number
