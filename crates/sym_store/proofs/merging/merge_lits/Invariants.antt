use Rattle.sym_store.specs.Merging.{AreLitsMerging}
use Rattle.sym_store.proofs.merging.merge_lits.Given as goal

abbrev pub invariant-loop-at : goal.invariant-loop-at
invariant-loop-at l = AreLitsMerging l.initial.circuit l.circuit l.which l.first l.second l.lits.items l.at
