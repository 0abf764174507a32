use Rattle.twin_laws.proofs.Inputs.{loops_full}
use Rattle.twin_laws.proofs.laws.twin_loops_are_full.Goals as goal

pub returns : goal.returns
returns c = λ twins f g paired number interface reached reached'. loops_full c.args._pairing.now c.args._old.now c.args._other.now twins c.one_end.ensures f g paired number interface reached reached'
