use Rattle.sym_exec.proofs.Exits.{end_is}
use Rattle.sym_exec.proofs.ends.ending.Goals as goal

pub returns-clause-built : goal.returns-clause-built
returns-clause-built c = end_is _ c.merge_exits.new.circuit _ c.in_ok-traps.traps.items c.in_ok-values.values c.in_ok-values.ensures c.in_ok-traps.ensures
