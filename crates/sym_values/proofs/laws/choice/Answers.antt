use Rattle.sym_values.proofs.Tests.{choosing}
use Rattle.sym_values.proofs.laws.choice.Goals as goal

pub returns : goal.returns
returns c = choosing
