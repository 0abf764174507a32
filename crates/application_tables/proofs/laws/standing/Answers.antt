use Rattle.application_tables.proofs.Standing.{standing}
use Rattle.application_tables.proofs.laws.standing.Goals as goal

pub returns : goal.returns
returns c = standing
