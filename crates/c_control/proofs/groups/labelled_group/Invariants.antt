use Rattle.std.proofs.Common.{◌≡◌}
use Rattle.rvt_tree.specs.Views.{groups_view}
use Rattle.c_control.specs.Groups.{labelled_group}
use Rattle.c_control.proofs.groups.labelled_group.Given as goal

-- the groups that are left have the one that is looked for
abbrev pub invariant-loop-groups : goal.invariant-loop-groups
invariant-loop-groups l = labelled_group l.wanted (groups_view l.groups) ≡ labelled_group l.wanted (groups_view l.initial.groups)
