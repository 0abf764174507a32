use Rattle.call_arguments.proofs.ValueLemmas.{one_value}
use Rattle.call_arguments.proofs.laws.one_value.Goals as goal

pub returns : goal.returns
returns c = one_value
