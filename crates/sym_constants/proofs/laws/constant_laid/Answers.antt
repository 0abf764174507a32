use Rattle.sym_constants.proofs.Bits.{constant_laid}
use Rattle.sym_constants.proofs.laws.constant_laid.Goals as goal

pub returns : goal.returns
returns c = constant_laid
