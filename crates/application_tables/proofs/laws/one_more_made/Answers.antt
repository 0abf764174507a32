use Rattle.application_tables.proofs.Making.{one_more_made}
use Rattle.application_tables.proofs.laws.one_more_made.Goals as goal

pub returns : goal.returns
returns c = one_more_made
