use Rattle.c_tasks.proofs.Pushes.{after_push, weight_push}
use Rattle.c_tasks.proofs.work.put.Goals as goal

pub returns-clause-next : goal.returns-clause-next
returns-clause-next c = λ program d. after_push program d _ _ _ c.in_ok-push.ensures.items

pub returns-clause-weight : goal.returns-clause-weight
returns-clause-weight c = weight_push _ _ _ c.in_ok-push.ensures.items
