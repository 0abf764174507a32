use Rattle.sym_places.proofs.ReadValues.{read_is}
use Rattle.sym_places.proofs.laws.read.Goals as goal

pub returns : goal.returns
returns c = read_is
