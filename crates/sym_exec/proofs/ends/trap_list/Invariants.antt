use Rattle.std.proofs.Common.{◌≡◌, take}
use Rattle.std.specs.Prelude.{map}
use Rattle.sym_exec.specs.Ends.{traps_in}
use Rattle.sym_paths.specs.Runs.{exit_of}
use Rattle.sym_exec.proofs.ends.trap_list.Given as goal

abbrev pub invariant-exits : goal.invariant-exits
invariant-exits l = l.traps.items ≡ traps_in (map exit_of (take l.exit-index l.exits))
