use Rattle.std.proofs.Common.{◌≡◌, ◌≤◌, ◌++◌}
use Rattle.rvt_tree.specs.Views.{inits_view}
use Rattle.rvt_tree.specs.declared.statements.Inits.{size-Inits}
use Rattle.file_typing.specs.Initializers.{contents_of_members}
use Rattle.declarator_types.proofs.contents.+contents.Given as goal

-- what is made, and what is left, are the whole
abbrev pub invariant-push_contents_of_members-loop-rest : goal.invariant-push_contents_of_members-loop-rest
invariant-push_contents_of_members-loop-rest l = record {
  no_deeper : size-Inits l.rest ≤ size-Inits l.initial.rest;
  same : l.made.items ++ contents_of_members (inits_view l.rest) l.left ≡ l.initial.made.items ++ contents_of_members (inits_view l.initial.rest) l.initial.left;
}
