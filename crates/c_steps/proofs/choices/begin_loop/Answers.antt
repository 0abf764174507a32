use Rattle.std.proofs.Common.{subst}
use Rattle.c_control.specs.Loops.{Lawful}
use Rattle.c_steps.proofs.choices.begin_loop.Goals as goal

pub returns-clause-next : goal.returns-clause-next
returns-clause-next c =
    c.in_ok-begin_loop.ensures.next c.args.layouts.now (subst Lawful c.program.ensures c.laws_of_loops.ensures)

pub returns-clause-weight : goal.returns-clause-weight
returns-clause-weight c = c.in_ok-begin_loop.ensures.weight

pub begin_loop-requires : goal.begin_loop-requires
begin_loop-requires c = record { loop_statement = c.requires.loop_statement }
