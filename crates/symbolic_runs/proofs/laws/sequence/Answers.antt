use Rattle.symbolic_runs.proofs.Rules.{sequence}
use Rattle.symbolic_runs.proofs.laws.sequence.Goals as goal

pub returns : goal.returns
returns c = sequence
