use Rattle.std.proofs.Common.{◌≡◌}
use Rattle.uf_abstraction.specs.Applying.{fresh_lits}
use Rattle.uf_abstraction.proofs.fresh.fresh_bits.Given as goal

abbrev pub invariant-bits : goal.invariant-bits
invariant-bits l = fresh_lits l.initial.circuit l.counter ≡ record { nodes = l.circuit; lits = l.lits.items }
