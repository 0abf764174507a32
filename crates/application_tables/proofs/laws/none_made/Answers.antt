use Rattle.application_tables.proofs.Making.{none_made}
use Rattle.application_tables.proofs.laws.none_made.Goals as goal

pub returns : goal.returns
returns c = none_made
