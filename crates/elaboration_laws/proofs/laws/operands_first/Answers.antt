use Rattle.elaboration_laws.proofs.Operands.{broken_operands, operands_break}
use Rattle.elaboration_laws.proofs.laws.operands_first.Goals as goal

pub returns : goal.returns
returns c = λ scope x notes cause at. (broken_operands cause at scope x notes, operands_break cause at scope x notes)
