use Rattle.sym_paths.proofs.Going.{call}
use Rattle.sym_paths.proofs.laws.call.Goals as goal

pub returns : goal.returns
returns c = call
