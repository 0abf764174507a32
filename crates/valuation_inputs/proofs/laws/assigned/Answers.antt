use Rattle.valuation_inputs.proofs.Inputs.{assigned}
use Rattle.valuation_inputs.proofs.laws.assigned.Goals as goal

pub returns : goal.returns
returns c = assigned
