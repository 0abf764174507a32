use Rattle.symbolic_runs.proofs.Rules.{stop}
use Rattle.symbolic_runs.proofs.laws.stop.Goals as goal

pub returns : goal.returns
returns c = stop
