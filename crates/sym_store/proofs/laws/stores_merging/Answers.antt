use Rattle.sym_store.proofs.Stores.{stores_merging}
use Rattle.sym_store.proofs.laws.stores_merging.Goals as goal

pub returns : goal.returns
returns c = stores_merging
