use Rattle.std.proofs.Common.{◌≡◌, take}
use Rattle.aig_build.specs.Circuits.{Grows}
use Rattle.symbolic_runs.specs.Keeping.{IsLitThere}
use Rattle.sym_paths.specs.Runs.{run_of, with_traps}
use Rattle.sym_paths.proofs.runs.end_at.Given as goal

abbrev pub invariant-loop-at : goal.invariant-loop-at
invariant-loop-at l =
    (with_traps (record { nodes = l.initial.circuit; run = run_of l.initial.run }) (take l.at l.traps) ≡ record { nodes = l.circuit; run = run_of l.run }) × Grows l.initial.circuit l.circuit × IsLitThere l.circuit l.run.live
