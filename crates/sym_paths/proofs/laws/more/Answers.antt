use Rattle.sym_paths.proofs.Going.{more}
use Rattle.sym_paths.proofs.laws.more.Goals as goal

pub returns : goal.returns
returns c = more
