use Rattle.twin_laws.proofs.Functions.{one_table, runs_same}
use Rattle.twin_laws.proofs.laws.twins_run_alike.Goals as goal

pub returns : goal.returns
returns c = λ twins f g paired arguments store all held n d.
    runs_same c.args._pairing.now c.args._old.now c.args._other.now (one_table c.args._pairing.now c.args._old.now c.args._other.now twins) twins.closed twins.touch f g paired arguments store all held n d
