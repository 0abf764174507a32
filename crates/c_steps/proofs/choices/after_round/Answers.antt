use Rattle.std.proofs.Common.{subst, arith}
use Rattle.c_control.specs.Loops.{Lawful}
use Rattle.c_steps.proofs.choices.after_round.Goals as goal

pub returns-clause-next : goal.returns-clause-next
returns-clause-next c =
    c.in_ok-after_round.ensures.next c.args.layouts.now (subst Lawful c.program.ensures c.laws_of_loops.ensures)

pub returns-clause-weight : goal.returns-clause-weight
returns-clause-weight c =
    omega (arith, c.in_ok-after_round.ensures.weight)
