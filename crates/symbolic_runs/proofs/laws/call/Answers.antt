use Rattle.symbolic_runs.proofs.Rules.{call}
use Rattle.symbolic_runs.proofs.laws.call.Goals as goal

pub returns : goal.returns
returns c = call
