use Rattle.elaboration_laws.proofs.Operands.{broken_call}
use Rattle.elaboration_laws.proofs.laws.arguments_first.Goals as goal

pub returns : goal.returns
returns c = λ scope function arguments to notes noted cause at. broken_call cause at scope function arguments to notes noted
