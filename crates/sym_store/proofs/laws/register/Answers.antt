use Rattle.sym_store.proofs.Stores.{register_is}
use Rattle.sym_store.proofs.laws.register.Goals as goal

pub returns : goal.returns
returns c = register_is
