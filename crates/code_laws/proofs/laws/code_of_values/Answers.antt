use Rattle.code_laws.proofs.Values.{value_stands}
use Rattle.code_laws.proofs.laws.code_of_values.Goals as goal

pub returns : goal.returns
returns c = λ program d counts code e slot place from to next spans then. value_stands program d counts code e slot place from to next spans then
