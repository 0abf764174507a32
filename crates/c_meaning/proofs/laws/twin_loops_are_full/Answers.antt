use Rattle.c_meaning.proofs.TwinRuns.{loop_twins_full}
use Rattle.c_meaning.proofs.laws.twin_loops_are_full.Goals as goal

pub returns : goal.returns
returns c one closed f g paired number interface reached reached' =
    loop_twins_full c.args._pairing.now c.args._old.now c.args._other.now one closed f g paired number interface reached reached'
