use Rattle.c_meaning.proofs.Exact.{steps_exact}
use Rattle.c_meaning.proofs.laws.steps_exact.Goals as goal

pub returns : goal.returns
returns c = steps_exact c.args._program.now
