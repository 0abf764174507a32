use Rattle.code_laws.proofs.Bodies.{body_stands}
use Rattle.code_laws.proofs.laws.code_of_bodies.Goals as goal

pub returns : goal.returns
returns c = body_stands c.args.program.now c.loop_unfolds.ensures c.loop_parts_spend.ensures.tests c.loop_parts_spend.ensures.bodies c.loop_parts_spend.ensures.rounds
