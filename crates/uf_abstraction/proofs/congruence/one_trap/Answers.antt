use Rattle.std.proofs.Common.{false, arith}
use Rattle.aig_build.proofs.Nodes.{Grows-length}
use Rattle.rvt_num.specs.declared.values.Trap.TheVariants.{Divide}
use Rattle.uf_abstraction.proofs.Loops.{trap_there}
use Rattle.uf_abstraction.proofs.congruence.one_trap.Goals as goal

pub with_trap-requires-clause-trap_is_there : goal.with_trap-requires-clause-trap_is_there
with_trap-requires-clause-trap_is_there c =
    let there = trap_there c.args.circuit.now c.args.traps.now c.traps.at (Divide, record { node = 0; negated = false }) c.requires.traps_are_there c.traps-test.true in
    let longer = Grows-length _ _ c.traps.invariant.1.grows in
    omega (arith, there, longer)
