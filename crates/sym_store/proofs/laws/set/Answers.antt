use Rattle.sym_store.proofs.Stores.{set_is}
use Rattle.sym_store.proofs.laws.set.Goals as goal

pub returns : goal.returns
returns c = set_is
