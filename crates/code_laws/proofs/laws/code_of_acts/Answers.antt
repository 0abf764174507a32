use Rattle.code_laws.proofs.Acts.{act_stands}
use Rattle.code_laws.proofs.laws.code_of_acts.Goals as goal

pub returns : goal.returns
returns c = λ program d counts code a from to next spans then. act_stands program d counts code a from to next spans then
