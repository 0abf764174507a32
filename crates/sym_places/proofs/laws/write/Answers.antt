use Rattle.sym_places.proofs.WriteValues.{write_is}
use Rattle.sym_places.proofs.laws.write.Goals as goal

pub returns : goal.returns
returns c = write_is
