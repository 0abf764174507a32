use Rattle.sym_store.specs.Merging.{AreValuesMerging}
use Rattle.sym_store.proofs.merging.merge.Given as goal

abbrev pub invariant-loop-at : goal.invariant-loop-at
invariant-loop-at l = AreValuesMerging l.initial.circuit l.circuit l.which l.first l.second l.values.items l.at
