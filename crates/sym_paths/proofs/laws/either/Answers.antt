use Rattle.sym_paths.proofs.Going.{either}
use Rattle.sym_paths.proofs.laws.either.Goals as goal

pub returns : goal.returns
returns c = either
