use Rattle.symbolic_runs.proofs.Units.{unit}
use Rattle.symbolic_runs.proofs.laws.unit.Goals as goal

pub returns : goal.returns
returns c = unit
