use Rattle.code_laws.proofs.Turning.{turns_law}
use Rattle.code_laws.proofs.laws.turning.Goals as goal

pub returns : goal.returns
returns c = turns_law c.args.program.now c.loop_unfolds.ensures c.loop_parts_spend.ensures.tests c.loop_parts_spend.ensures.bodies c.loop_parts_spend.ensures.rounds
