use Rattle.sym_constants.proofs.Bits.{zero_is}
use Rattle.sym_constants.proofs.laws.zero.Goals as goal

pub returns : goal.returns
returns c = zero_is
