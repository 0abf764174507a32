use Rattle.symbolic_runs.proofs.Rules.{step}
use Rattle.symbolic_runs.proofs.laws.step.Goals as goal

pub returns : goal.returns
returns c = step
