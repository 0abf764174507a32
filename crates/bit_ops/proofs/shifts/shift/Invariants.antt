use Rattle.bit_ops.specs.Shifting.{IsShifting}
use Rattle.bit_ops.proofs.shifts.shift.Given as goal

abbrev pub invariant-loop-at : goal.invariant-loop-at
invariant-loop-at l = IsShifting l.initial.circuit l.circuit l.up l.fill l.bits l.count l.word.items l.step l.at
