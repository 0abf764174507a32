use Rattle.rvt_tree.specs.Views.{act_view}
use Rattle.operator_rules.proofs.KeptResults.{kept_breaks}
use Rattle.operator_rules.proofs.AssignmentSteps.{constant_is_assigned}
use Rattle.operator_rules.proofs.assignment.assigned.Goals as goal

pub returns-in-Err : goal.returns-in-Err
returns-in-Err c =
    kept_breaks (λ u. u) act_view _ _ _ _ c.in-Err.is c.modifiable-may_write.ensures
    (λ cause place breaks. constant_is_assigned _ _ _ _ c.in_ok-to.ensures cause place c.in_ok-no_struct_copied.ensures breaks)
