use Rattle.c_meaning.proofs.TwinRuns.{twins_full, plain_table}
use Rattle.c_meaning.proofs.laws.plain_twins_are_full.Goals as goal

pub returns : goal.returns
returns c plain closed f g paired reached reached' =
    twins_full c.args._pairing.now c.args._old.now c.args._other.now
    (plain_table c.args._pairing.now c.args._old.now c.args._other.now plain.no_pairs plain.no_structs plain.no_objects plain.no_objects')
    closed f g paired reached reached'
