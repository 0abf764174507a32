use Rattle.core_examples.proofs.Fitting.{factorials_fit}
use Rattle.core_examples.proofs.laws.factorials_fit.Goals as goal

pub returns : goal.returns
returns c = factorials_fit
