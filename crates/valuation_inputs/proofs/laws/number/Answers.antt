use Rattle.valuation_inputs.proofs.Inputs.{number}
use Rattle.valuation_inputs.proofs.laws.number.Goals as goal

pub returns : goal.returns
returns c = number
