use Rattle.application_tables.proofs.Making.{later_made}
use Rattle.application_tables.proofs.laws.later_made.Goals as goal

pub returns : goal.returns
returns c = later_made
