use Rattle.c_meaning.proofs.Exact.{one}
use Rattle.c_meaning.proofs.laws.one_end.Goals as goal

pub returns : goal.returns
returns c = one c.args._program.now
