use Rattle.std.proofs.Common.{ap, ◌∙◌}
use Rattle.c_tasks.specs.Tasks.{unary_result}
use Rattle.c_tasks.specs.Weights.{tasks_weight}
use Rattle.c_steps.proofs.Moves.{given_value, if_ok}
use Rattle.c_steps.proofs.operands.unary.Goals as goal

pub returns-clause-next : goal.returns-clause-next
returns-clause-next c =
    if_ok c.give_or_trap.result (λ progress h d s. h c.args.layouts.now d s ∙ given_value c.args.layouts.now d s _ _ _ _ _ _ c.take_value-value.ensures.tasks c.take_value-value.ensures.operands (c.in_ok-computed.ensures ∙ ap (unary_result c.args.layouts.now c.args.op) c.take_value-value.ensures.value)) c.give_or_trap.ensures.next

pub returns-clause-light : goal.returns-clause-light
returns-clause-light c =
    if_ok c.give_or_trap.result (λ progress h. h ∙ ap tasks_weight c.take_value-value.ensures.tasks) c.give_or_trap.ensures.light
