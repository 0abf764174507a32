use Rattle.rvt_tree.specs.Views.{act_view}
use Rattle.operator_rules.specs.Views.{sides_view}
use Rattle.operator_rules.proofs.KeptResults.{kept_breaks}
use Rattle.operator_rules.proofs.AssignmentSteps.{compound_of_constant}
use Rattle.operator_rules.proofs.assignment.compound_assigned.Goals as goal

pub returns-in-Err : goal.returns-in-Err
returns-in-Err c =
    kept_breaks (λ u. u) act_view _ _ _ _ c.in-Err.is c.modifiable-may_write.ensures
    (λ cause place breaks. compound_of_constant _ _ (sides_view c.args.at) _ _ _ c.in_ok-to.ensures cause place _ c.in_ok-made.ensures breaks)
