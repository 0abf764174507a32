use Rattle.std.proofs.Common.{take}
use Rattle.sym_paths.specs.Going.{done_by_all, world, GoesOn}
use Rattle.sym_paths.specs.Runs.{run_of}
use Rattle.sym_exec.proofs.walks.+walk.Given as goal

abbrev pub invariant-walk_all-parts : goal.invariant-walk_all-parts
invariant-walk_all-parts g l =
    GoesOn (g.S.Steps.subject l.steps) (done_by_all (g.S.Steps.subject l.steps) (take l.part-index l.parts)) (world l.initial.circuit l.initial.applications) (run_of l.initial.run) (world l.circuit l.applications) (run_of l.run)
