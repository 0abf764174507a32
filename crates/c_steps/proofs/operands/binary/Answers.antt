use Rattle.std.proofs.Common.{ap, ◌∙◌}
use Rattle.c_tasks.specs.Operands.{operands, top_value, without_value}
use Rattle.c_tasks.specs.Tasks.{binary_result}
use Rattle.c_tasks.specs.Weights.{tasks_weight}
use Rattle.c_steps.proofs.Moves.{given_value, if_ok}
use Rattle.c_steps.proofs.operands.binary.Goals as goal

pub returns-clause-next : goal.returns-clause-next
returns-clause-next c =
    let left = c.take_value-left.ensures.value ∙ ap top_value c.take_value-right.ensures.operands in
    if_ok c.give_or_trap.result (λ progress h d s. h c.args.layouts.now d s ∙ given_value c.args.layouts.now d s _ _ _ _ _ _ (c.take_value-left.ensures.tasks ∙ c.take_value-right.ensures.tasks) (c.take_value-left.ensures.operands ∙ ap without_value c.take_value-right.ensures.operands) (c.in_ok-computed.ensures ∙ ap (λ v. binary_result c.args.layouts.now c.args.op v c.take_value-right.result) left ∙ ap (binary_result c.args.layouts.now c.args.op (top_value (without_value (operands c.args.work.now)))) c.take_value-right.ensures.value)) c.give_or_trap.ensures.next

pub returns-clause-light : goal.returns-clause-light
returns-clause-light c =
    if_ok c.give_or_trap.result (λ progress h. h ∙ ap tasks_weight (c.take_value-left.ensures.tasks ∙ c.take_value-right.ensures.tasks)) c.give_or_trap.ensures.light
