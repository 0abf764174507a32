use Rattle.std.proofs.Common.{ap, ◌∙◌}
use Rattle.c_meaning.specs.Outcomes.{Normally}
use Rattle.c_tasks.specs.Operands.{operands, with_manner}
use Rattle.c_tasks.specs.Tasks.{after}
use Rattle.c_steps.specs.Steps.{with_left}
use Rattle.c_steps.proofs.scopes.declare.Goals as goal

pub returns-clause-next : goal.returns-clause-next
returns-clause-next c =
    λ d left. ap (λ ts. after c.args.layouts.now d ts (operands c.end.new.self) (with_left c.clear.new.self left)) c.end.ensures.tasks
    ∙ ap (λ on. after c.args.layouts.now d c.args.work.now.tasks.items on (with_left c.clear.new.self left)) c.end.ensures.operands
    ∙ ap (λ cells. after c.args.layouts.now d c.args.work.now.tasks.items (with_manner Normally (operands c.args.work.now)) (with_left cells left)) c.clear.ensures

pub returns-clause-tasks : goal.returns-clause-tasks
returns-clause-tasks c =
    c.end.ensures.tasks
