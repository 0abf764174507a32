use Rattle.c_meaning.proofs.Exact.{more_keeps}
use Rattle.c_meaning.proofs.laws.more_keeps_end.Goals as goal

pub returns : goal.returns
returns c = more_keeps c.args._program.now
