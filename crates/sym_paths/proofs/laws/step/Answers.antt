use Rattle.sym_paths.proofs.Going.{step}
use Rattle.sym_paths.proofs.laws.step.Goals as goal

pub returns : goal.returns
returns c = step
