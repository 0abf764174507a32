use Rattle.std.proofs.Common.{ap}
use Rattle.c_tasks.specs.Operands.{operands}
use Rattle.c_tasks.proofs.Stacks.{with_place_list, pushed}
use Rattle.c_tasks.proofs.work.Work.give_place.Goals as goal

pub returns-clause-operands : goal.returns-clause-operands
returns-clause-operands c = ap (λ ps. with_place_list ps (operands c.args.self.now)) (pushed _ _ _ c.in_ok-push.ensures.items)
