use Rattle.rvt_tree.specs.Views.{act_view}
use Rattle.operator_rules.proofs.KeptResults.{kept_breaks}
use Rattle.operator_rules.proofs.AssignmentSteps.{step_of_constant}
use Rattle.operator_rules.proofs.assignment.stepped.Goals as goal

pub returns-in-Err : goal.returns-in-Err
returns-in-Err c =
    kept_breaks (λ u. u) act_view _ _ _ _ c.in-Err.is c.modifiable-may_write.ensures
    (λ cause place breaks. step_of_constant _ _ _ _ _ _ c.in_ok-to.ensures cause place _ c.in_ok-made.ensures breaks)
