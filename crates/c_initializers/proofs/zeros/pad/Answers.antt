use Rattle.std.proofs.Common.{◌++◌, take, drop, reverse, ap, ◌∙◌}
use Rattle.c_tasks.specs.Operands.{operands}
use Rattle.c_tasks.proofs.Stacks.{with_list}
use Rattle.c_initializers.proofs.Padding.{reverse_more}
use Rattle.c_initializers.proofs.zeros.pad.Goals as goal

pub returns-clause-operands : goal.returns-clause-operands
returns-clause-operands c =
    let values = c.args.work.now.values.items in
    let zeros = c.args.work.now.zeros.items in
    let padding = c.first-zeros.ensures ∙ ap (take c.args.count) (c.from.ensures ∙ ap (drop c.args.at) c.as_slice.ensures.value) in
    ap (λ vs. with_list vs (operands c.args.work.now)) (ap reverse (c.in_ok-extend_from_slice.ensures.items ∙ ap (λ vs. values ++ vs) padding) ∙ reverse_more values (take c.args.count (drop c.args.at zeros)))
