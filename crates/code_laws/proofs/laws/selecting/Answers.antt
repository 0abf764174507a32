use Rattle.code_laws.proofs.Selecting.{selects_law}
use Rattle.code_laws.proofs.laws.selecting.Goals as goal

pub returns : goal.returns
returns c = selects_law c.args.program.now c.loop_unfolds.ensures c.loop_parts_spend.ensures.tests c.loop_parts_spend.ensures.bodies c.loop_parts_spend.ensures.rounds
