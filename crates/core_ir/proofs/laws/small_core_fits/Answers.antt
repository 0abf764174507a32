use Rattle.core_ir.proofs.Example.{both_fits}
use Rattle.core_ir.proofs.laws.small_core_fits.Goals as goal

pub returns : goal.returns
returns c = both_fits
