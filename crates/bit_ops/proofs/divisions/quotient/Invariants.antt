use Rattle.bit_ops.specs.Dividing.{IsDividing}
use Rattle.bit_ops.proofs.divisions.quotient.Given as goal

abbrev pub invariant-loop-done : goal.invariant-loop-done
invariant-loop-done l = IsDividing l.initial.circuit l.circuit l.a l.divisor l.quotient.items l.rest.items l.done
