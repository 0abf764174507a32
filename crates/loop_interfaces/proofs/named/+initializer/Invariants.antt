use Rattle.std.proofs.Common.{◌≡◌, ◌≤◌, ◌++◌}
use Rattle.rvt_tree.specs.Views.{inits_view}
use Rattle.rvt_tree.specs.declared.statements.Inits.{size-Inits}
use Rattle.c_meaning.specs.Interfaces.{named_in_members}
use Rattle.loop_interfaces.proofs.named.+initializer.Given as goal

-- those so far, and those that are left
abbrev pub invariant-add_in_members-loop-rest : goal.invariant-add_in_members-loop-rest
invariant-add_in_members-loop-rest l = record {
  no_deeper : size-Inits l.rest ≤ size-Inits l.initial.rest;
  same : l.out.items ++ named_in_members (inits_view l.rest) ≡ l.initial.out.items ++ named_in_members (inits_view l.initial.rest);
}
