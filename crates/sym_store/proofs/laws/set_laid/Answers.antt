use Rattle.sym_store.proofs.Stores.{set_laid}
use Rattle.sym_store.proofs.laws.set_laid.Goals as goal

pub returns : goal.returns
returns c = set_laid
