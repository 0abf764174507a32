use Rattle.symbolic_runs.proofs.Rules.{branches}
use Rattle.symbolic_runs.proofs.laws.branches.Goals as goal

pub returns : goal.returns
returns c = branches
