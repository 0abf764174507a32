use Rattle.std.proofs.Common.{◌≡◌, ◌++◌, ◌+◌, ◌≤◌}
use Rattle.rvt_tree.specs.Views.{inits_view}
use Rattle.rvt_tree.specs.declared.statements.Init.{size-Init}
use Rattle.rvt_tree.specs.declared.statements.Inits.{size-Inits}
use Rattle.c_code.specs.Initializers.{cells_in_members, members_code}
use Rattle.c_code.proofs.initializers.+initializer.Given as goal

-- what was emitted, with what is left
abbrev pub invariant-members-members : goal.invariant-members-members
invariant-members-members l = record {
  no_deeper : size-Inits l.left ≤ size-Inits l.initial.left;
  emitted : l.code.items ++ members_code (inits_view l.left) l.zero l.zeros l.to ≡ l.initial.code.items ++ members_code (inits_view l.initial.left) l.initial.zero l.initial.zeros l.initial.to;
  counted : l.to + cells_in_members (inits_view l.left) l.zeros ≡ l.initial.to + cells_in_members (inits_view l.initial.left) l.initial.zeros;
}

abbrev pub decreases-members-members : goal.decreases-members-members
decreases-members-members l = size-Inits l.left

abbrev pub decreases-initializer : goal.decreases-initializer
decreases-initializer l = size-Init l.init.now

abbrev pub decreases-members : goal.decreases-members
decreases-members l = size-Inits l.list.now
