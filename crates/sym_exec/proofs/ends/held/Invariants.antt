use Rattle.std.proofs.Common.{◌≡◌, take}
use Rattle.symbolic_runs.specs.Runs.{chosen}
use Rattle.sym_exec.proofs.ends.held.Given as goal

abbrev pub invariant-registers : goal.invariant-registers
invariant-registers l = l.held.items ≡ chosen l.values (take l.register-index l.registers)
