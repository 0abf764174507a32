use Rattle.c_meaning.proofs.TwinRuns.{runs_same}
use Rattle.c_meaning.proofs.laws.twins_run_alike.Goals as goal

pub returns : goal.returns
returns c one closed f g paired arguments store n d = runs_same c.args._pairing.now c.args._old.now c.args._other.now one closed f g paired arguments store n d
