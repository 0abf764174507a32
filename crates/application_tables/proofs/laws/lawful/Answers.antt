use Rattle.application_tables.proofs.Lawful.{lawful}
use Rattle.application_tables.proofs.laws.lawful.Goals as goal

pub returns : goal.returns
returns c = lawful
