use Rattle.sym_constants.proofs.Testing.{test_is}
use Rattle.sym_constants.proofs.laws.test.Goals as goal

pub returns : goal.returns
returns c = test_is
