use Rattle.sym_store.proofs.Choices.{alike}
use Rattle.sym_store.proofs.laws.alike.Goals as goal

pub returns : goal.returns
returns c = alike
