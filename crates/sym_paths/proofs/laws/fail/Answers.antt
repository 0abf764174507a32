use Rattle.sym_paths.proofs.Going.{fail}
use Rattle.sym_paths.proofs.laws.fail.Goals as goal

pub returns : goal.returns
returns c = fail
