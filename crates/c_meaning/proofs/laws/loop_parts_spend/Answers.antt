use Rattle.c_meaning.proofs.Enough.{test_spends, body_spends, round_spends}
use Rattle.c_meaning.proofs.laws.loop_parts_spend.Goals as goal

pub returns-clause-tests : goal.returns-clause-tests
returns-clause-tests c = test_spends c.args._program.now

pub returns-clause-bodies : goal.returns-clause-bodies
returns-clause-bodies c = body_spends c.args._program.now

pub returns-clause-rounds : goal.returns-clause-rounds
returns-clause-rounds c = round_spends c.args._program.now
