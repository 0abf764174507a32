use Rattle.valuation_inputs.proofs.Inputs.{grown}
use Rattle.valuation_inputs.proofs.laws.grown.Goals as goal

pub returns : goal.returns
returns c = grown
