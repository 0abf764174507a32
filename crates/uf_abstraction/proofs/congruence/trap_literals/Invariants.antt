use Rattle.std.proofs.Common.{◌≡◌, take}
use Rattle.uf_abstraction.specs.Applications.{trap_lits}
use Rattle.uf_abstraction.proofs.congruence.trap_literals.Given as goal

abbrev pub invariant-traps : goal.invariant-traps
invariant-traps l = l.lits.items ≡ trap_lits (take l.trap-index l.traps)
