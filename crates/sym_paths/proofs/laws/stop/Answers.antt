use Rattle.sym_paths.proofs.Going.{stop}
use Rattle.sym_paths.proofs.laws.stop.Goals as goal

pub returns : goal.returns
returns c = stop
