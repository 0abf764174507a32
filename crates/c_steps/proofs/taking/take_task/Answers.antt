use Rattle.c_steps.proofs.Taken.{next_taken, weight_taken, none_taken, none_left}
use Rattle.c_steps.proofs.taking.take_task.Goals as goal

pub returns-clause-next : goal.returns-clause-next
returns-clause-next c =
    next_taken _ _ _ c.pop.ensures.items

pub returns-clause-weight : goal.returns-clause-weight
returns-clause-weight c =
    weight_taken _ _ _ c.pop.ensures.items

pub returns-clause-none : goal.returns-clause-none
returns-clause-none c =
    none_taken _ _ _ _ _ c.args.work.now.tasks.ok.0 c.pop.ensures.cases c.pop.ensures.items

pub returns-clause-empty : goal.returns-clause-empty
returns-clause-empty c =
    none_left _ _ _ _ _ c.args.work.now.tasks.ok.0 c.pop.ensures.cases c.pop.ensures.items
