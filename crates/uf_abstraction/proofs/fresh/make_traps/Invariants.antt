use Rattle.std.proofs.Common.{◌≡◌, take}
use Rattle.uf_abstraction.specs.Applying.{fresh_traps}
use Rattle.uf_abstraction.proofs.fresh.make_traps.Given as goal

abbrev pub invariant-traps : goal.invariant-traps
invariant-traps l = fresh_traps l.initial.circuit (take l.trap-index l.traps) ≡ record { nodes = l.circuit; traps = l.made.items }
