use Rattle.symbolic_runs.proofs.Rules.{nothing}
use Rattle.symbolic_runs.proofs.laws.nothing.Goals as goal

pub returns : goal.returns
returns c = nothing
