use Rattle.std.proofs.Common.{◌≡◌, ◌≤◌}
use Rattle.rvt_tree.specs.Syntax.{no_initializers}
use Rattle.rvt_tree.specs.Views.{inits_view}
use Rattle.rvt_tree.specs.declared.statements.Inits.{size-Inits}
use Rattle.file_typing.specs.LocalObjects.{members_resolved}
use Rattle.local_objects.specs.ObjectTables.{object_at}
use Rattle.local_objects.specs.TurnedLists.{members_turned}
use Rattle.local_objects.proofs.initializers.+resolve_initializer.Given as goal

abbrev pub invariant-taken_members-loop-list : goal.invariant-taken_members-loop-list
invariant-taken_members-loop-list l = record {
  no_deeper : size-Inits l.list ≤ size-Inits l.initial.list;
  same_list : members_turned (members_resolved (object_at l.objects) (inits_view l.list)) (inits_view l.done)
      ≡ members_turned (members_resolved (object_at l.objects) (inits_view l.initial.list)) no_initializers;
}

abbrev pub decreases-taken_members-loop-list : goal.decreases-taken_members-loop-list
decreases-taken_members-loop-list l = size-Inits l.list
