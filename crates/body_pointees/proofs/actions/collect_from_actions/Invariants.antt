use Rattle.std.proofs.Common.{◌≡◌, ◌++◌}
use Rattle.rvt_tree.specs.Views.{acts_view}
use Rattle.rvt_tree.specs.declared.statements.Acts.{size-Acts}
use Rattle.body_pointees.specs.Pointees.{actions_pointees}
use Rattle.body_pointees.proofs.actions.collect_from_actions.Given as goal

-- what was collected, with what is left
abbrev pub invariant-loop-rest : goal.invariant-loop-rest
invariant-loop-rest l = l.into.items ++ actions_pointees (acts_view l.rest) ≡ l.initial.into.items ++ actions_pointees (acts_view l.initial.rest)

abbrev pub decreases-loop-rest : goal.decreases-loop-rest
decreases-loop-rest l = size-Acts l.rest
