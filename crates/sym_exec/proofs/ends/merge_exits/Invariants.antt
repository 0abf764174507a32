use Rattle.std.proofs.Common.{◌≡◌}
use Rattle.sym_exec.proofs.Exits.{last_exits}
use Rattle.sym_exec.specs.Ends.{ended_so, traps_in}
use Rattle.symbolic_runs.specs.Ending.{end_built}
use Rattle.sym_exec.proofs.ends.merge_exits.Given as goal

abbrev pub invariant-exits : goal.invariant-exits
invariant-exits l =
    end_built l.initial.circuit (last_exits l.done l.exits) l.initial.values.results.items l.initial.values.cells.items ≡ ended_so l.circuit (traps_in (last_exits l.done l.exits)) l.values
