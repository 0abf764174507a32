use Rattle.sym_paths.proofs.Going.{begin}
use Rattle.sym_paths.proofs.laws.begin.Goals as goal

pub returns : goal.returns
returns c = begin
