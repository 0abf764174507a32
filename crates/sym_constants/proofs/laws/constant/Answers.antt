use Rattle.sym_constants.proofs.Bits.{constant_is}
use Rattle.sym_constants.proofs.laws.constant.Goals as goal

pub returns : goal.returns
returns c = constant_is
