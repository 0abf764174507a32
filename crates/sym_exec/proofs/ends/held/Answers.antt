use Rattle.sym_exec.proofs.Exits.{held_more}
use Rattle.sym_exec.proofs.ends.held.Goals as goal

pub registers-preserved : goal.registers-preserved
registers-preserved c = held_more c.args.values.now c.args.registers.now _ _ _ _ c.registers-test.true c.registers.invariant c.in_ok-push_held.ensures
