use Rattle.std.proofs.Common.{◌≡◌, ◌++◌, ◌≤◌}
use Rattle.rvt_tree.specs.Views.{inits_view}
use Rattle.rvt_tree.specs.declared.statements.Inits.{size-Inits}
use Rattle.body_pointees.specs.Pointees.{members_pointees}
use Rattle.body_pointees.proofs.initializers.+collect_from_initializer.Given as goal

abbrev pub invariant-collect_from_members-loop-rest : goal.invariant-collect_from_members-loop-rest
invariant-collect_from_members-loop-rest l = record {
  no_deeper : size-Inits l.rest ≤ size-Inits l.initial.rest;
  collected : l.into.items ++ members_pointees (inits_view l.rest) ≡ l.initial.into.items ++ members_pointees (inits_view l.initial.rest);
}

abbrev pub decreases-collect_from_members-loop-rest : goal.decreases-collect_from_members-loop-rest
decreases-collect_from_members-loop-rest l = size-Inits l.rest
