use Rattle.sym_values.proofs.Tests.{equality}
use Rattle.sym_values.proofs.laws.equality.Goals as goal

pub returns : goal.returns
returns c = equality
