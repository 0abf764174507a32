use Rattle.sym_paths.specs.Runs.{run_of}
use Rattle.sym_exec.proofs.Walking.{step_ready, step_goes}
use Rattle.sym_exec.proofs.walks.load.Goals as goal

pub load-requires-clause-kept : goal.load-requires-clause-kept
load-requires-clause-kept g c = c.requires.kept.store

pub end_at-requires-clause-live_there : goal.end_at-requires-clause-live_there
end_at-requires-clause-live_there g c =
    (step_ready (g.S.Steps.subject c.args.steps.now) _ _ _ (run_of c.args.run.now) _ _ c.requires.circuit c.requires.kept c.in_ok-traps.ensures).live

pub end_at-requires-clause-traps_there : goal.end_at-requires-clause-traps_there
end_at-requires-clause-traps_there g c =
    rw c.deref.ensures.value (step_ready (g.S.Steps.subject c.args.steps.now) _ _ _ (run_of c.args.run.now) _ _ c.requires.circuit c.requires.kept c.in_ok-traps.ensures).traps_there

pub returns : goal.returns
returns g c = step_goes (g.S.Steps.subject c.args.steps.now) _ _ _ _ (run_of c.args.run.now) _ _ _ c.requires.kept c.in_ok-traps.ensures (rw (← c.deref.ensures.value) c.in_ok-end_at.ensures)
