use Rattle.symbolic_runs.proofs.Rules.{fail}
use Rattle.symbolic_runs.proofs.laws.fail.Goals as goal

pub returns : goal.returns
returns c = fail
