use Rattle.std.proofs.Common.{◌≡◌, ◌<◌, drop, length}
use Rattle.std.specs.Prelude.{fold}
use Rattle.uf_abstraction.proofs.Loops.{IsGrown}
use Rattle.uf_abstraction.specs.Testing.{no_traps, with_trap_test}
use Rattle.uf_abstraction.proofs.congruence.one_trap.Given as goal

abbrev pub invariant-traps : goal.invariant-traps
invariant-traps l =
    (fold with_trap_test (record { nodes = l.circuit; some = l.some; single = l.single }) (drop l.at l.traps) ≡ fold with_trap_test (no_traps l.initial.circuit) l.traps)
    × IsGrown l.initial.circuit l.circuit l.some × (l.single.node < length l.circuit)
