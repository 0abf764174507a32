use Rattle.application_tables.proofs.Realized.{realization}
use Rattle.application_tables.proofs.laws.realization.Goals as goal

pub returns : goal.returns
returns c = realization
