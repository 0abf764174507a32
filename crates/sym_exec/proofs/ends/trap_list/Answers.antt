use Rattle.sym_exec.proofs.Exits.{traps_next}
use Rattle.sym_exec.proofs.ends.trap_list.Goals as goal

pub exits-preserved : goal.exits-preserved
exits-preserved c = traps_next _ _ _ _ _ c.exits-test.true c.exit-item.is c.exits.invariant c.in_ok-push_trap.ensures
