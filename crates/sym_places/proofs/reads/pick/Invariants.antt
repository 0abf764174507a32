use Rattle.sym_places.specs.Loops.{IsPicking}
use Rattle.sym_places.proofs.reads.pick.Given as goal

abbrev pub invariant-loop-at : goal.invariant-loop-at
invariant-loop-at l = IsPicking l.objects l.store l.fn.shape l.initial.circuit l.circuit l.value l.aims l.at
