use Rattle.symbolic_runs.proofs.Joined.{ending}
use Rattle.symbolic_runs.proofs.laws.ending.Goals as goal

pub returns : goal.returns
returns c = ending
