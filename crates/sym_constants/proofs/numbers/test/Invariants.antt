use Rattle.std.proofs.Common.{◌-◌}
use Rattle.sym_constants.specs.Tests.{IsTesting}
use Rattle.sym_constants.proofs.numbers.test.Given as goal

abbrev pub invariant-bits : goal.invariant-bits
invariant-bits l = IsTesting l.initial.circuit l.circuit l.fn.also l.lit l.bits l.number (l.count - l.done)
