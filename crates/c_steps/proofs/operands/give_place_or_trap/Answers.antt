use Rattle.std.proofs.Common.{ap, arith}
use Rattle.c_tasks.specs.Weights.{tasks_weight}
use Rattle.c_steps.proofs.Moves.{gave_place, trapped_place}
use Rattle.c_steps.proofs.operands.give_place_or_trap.Goals as goal

pub returns-in_ok-give_place-in-Ok-clause-next : goal.returns-in_ok-give_place-in-Ok-clause-next
returns-in_ok-give_place-in-Ok-clause-next c =
    gave_place c.args.work.now c.give_place.new.self c.args.computed c.in-Ok.place c.in-Ok.is c.in_ok-give_place-in-Ok.ensures.tasks c.in_ok-give_place-in-Ok.ensures.operands

pub returns-in_ok-give_place-in-Ok-clause-light : goal.returns-in_ok-give_place-in-Ok-clause-light
returns-in_ok-give_place-in-Ok-clause-light c =
    omega (arith, ap tasks_weight c.in_ok-give_place-in-Ok.ensures.tasks)

pub returns-in-Err-clause-next : goal.returns-in-Err-clause-next
returns-in-Err-clause-next c =
    trapped_place c.args.work.now c.args.computed c.in-Err.trap c.in-Err.is
