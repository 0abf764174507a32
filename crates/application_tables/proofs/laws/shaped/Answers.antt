use Rattle.application_tables.proofs.Standing.{shaped}
use Rattle.application_tables.proofs.laws.shaped.Goals as goal

pub returns : goal.returns
returns c = shaped
