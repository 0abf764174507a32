use Rattle.sym_store.proofs.Stores.{stores_alike}
use Rattle.sym_store.proofs.laws.stores_alike.Goals as goal

pub returns : goal.returns
returns c = stores_alike
