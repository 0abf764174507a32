use Rattle.code_laws.proofs.Statements.{statement_stands}
use Rattle.code_laws.proofs.laws.code_of_statements.Goals as goal

pub returns : goal.returns
returns c = λ d counts code s from to next spans then.
    statement_stands c.args.program.now d counts code c.loop_unfolds.ensures c.loop_parts_spend.ensures.tests c.loop_parts_spend.ensures.bodies c.loop_parts_spend.ensures.rounds s from to next spans then
