use Rattle.c_meaning.proofs.TwinRuns.{twins_full}
use Rattle.c_meaning.proofs.laws.twins_are_full.Goals as goal

pub returns : goal.returns
returns c one closed f g paired reached reached' = twins_full c.args._pairing.now c.args._old.now c.args._other.now one closed f g paired reached reached'
