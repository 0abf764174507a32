use Rattle.std.proofs.Common.{◌∙◌}
use Rattle.c_tasks.specs.Tasks.{after}
use Rattle.c_tasks.proofs.ValueForms.{on_ok}
use Rattle.c_initializers.proofs.Padding.{padded}
use Rattle.c_initializers.proofs.zeros.pad_after.Goals as goal

pub returns-clause-next : goal.returns-clause-next
returns-clause-next c =
    on_ok c.put.result (λ h program d. h program d ∙ padded program d c.args.count c.args.at c.in_ok-after.after c.saturating_sub.result c.in_ok-after.ensures c.saturating_sub.ensures (after program d c.args.tasks.now.items)) c.put.ensures.next
