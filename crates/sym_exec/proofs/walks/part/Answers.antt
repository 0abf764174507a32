use Rattle.sym_paths.specs.Runs.{run_of}
use Rattle.sym_exec.proofs.Walking.{test_there, live_there}
use Rattle.sym_exec.proofs.walks.part.Goals as goal

pub test-requires-clause-kept : goal.test-requires-clause-kept
test-requires-clause-kept g c = c.requires.kept.store

pub branch-circuit-requires-clause-live_there : goal.branch-circuit-requires-clause-live_there
branch-circuit-requires-clause-live_there g c =
    live_there (g.S.Steps.subject c.args.steps.now) c.args.register _ _ (run_of c.args.run.now) _ c.requires.circuit c.requires.kept c.in_ok-test.ensures

pub branch-circuit-requires-clause-test_there : goal.branch-circuit-requires-clause-test_there
branch-circuit-requires-clause-test_there g c =
    test_there (g.S.Steps.subject c.args.steps.now) c.args.register _ _ (run_of c.args.run.now) _ c.requires.circuit c.requires.kept c.in_ok-test.ensures

pub returns : goal.returns
returns g c = record {
  tested = c.test.new.circuit;
  test = c.in_ok-test.test;
  tests = c.in_ok-test.ensures;
  branches = c.in_ok-other.ensures.literals;
  first_is = c.in_ok-other.ensures.run;
  second_is = c.in_ok-other.ensures.store;
}
