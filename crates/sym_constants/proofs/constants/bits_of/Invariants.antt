use Rattle.std.proofs.Common.{◌≡◌, ◌++◌, ◌-◌}
use Rattle.sym_constants.specs.Constants.{number_lits}
use Rattle.sym_constants.proofs.constants.bits_of.Given as goal

abbrev pub invariant-bits : goal.invariant-bits
invariant-bits l = l.bits.items ++ number_lits (l.width - l.counter) l.rest ≡ number_lits l.width l.number
