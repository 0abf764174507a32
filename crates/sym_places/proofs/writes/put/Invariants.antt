use Rattle.sym_places.specs.Loops.{IsPutting}
use Rattle.sym_places.proofs.writes.put.Given as goal

abbrev pub invariant-loop-at : goal.invariant-loop-at
invariant-loop-at l = IsPutting l.objects l.guard l.value l.initial.circuit l.circuit l.initial.store l.store l.aims l.at
