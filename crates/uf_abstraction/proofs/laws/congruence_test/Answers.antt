use Rattle.uf_abstraction.proofs.TestsTell.{congruence_tells}
use Rattle.uf_abstraction.proofs.laws.congruence_test.Goals as goal

pub returns : goal.returns
returns c = congruence_tells
