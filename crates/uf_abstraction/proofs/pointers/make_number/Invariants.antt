use Rattle.std.proofs.Common.{◌≡◌, ◌-◌, ◌++◌}
use Rattle.uf_abstraction.specs.Testing.{number_lits}
use Rattle.uf_abstraction.proofs.pointers.make_number.Given as goal

abbrev pub invariant-bits : goal.invariant-bits
invariant-bits l = l.lits.items ++ number_lits (l.width - l.counter) l.left ≡ number_lits l.width l.number
