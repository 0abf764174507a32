use Rattle.symbolic_runs.proofs.Rules.{either}
use Rattle.symbolic_runs.proofs.laws.either.Goals as goal

pub returns : goal.returns
returns c = either
