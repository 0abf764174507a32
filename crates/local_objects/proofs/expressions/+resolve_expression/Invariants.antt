use Rattle.std.proofs.Common.{◌≡◌, ◌≤◌}
use Rattle.rvt_tree.specs.Syntax.{no_arguments}
use Rattle.rvt_tree.specs.Views.{exprs_view}
use Rattle.rvt_tree.specs.declared.expressions.Exprs.{size-Exprs}
use Rattle.file_typing.specs.LocalObjects.{arguments_resolved}
use Rattle.local_objects.specs.ObjectTables.{object_at}
use Rattle.local_objects.specs.TurnedLists.{arguments_turned}
use Rattle.local_objects.proofs.expressions.+resolve_expression.Given as goal

abbrev pub invariant-taken_arguments-loop-list : goal.invariant-taken_arguments-loop-list
invariant-taken_arguments-loop-list l = record {
  no_deeper : size-Exprs l.list ≤ size-Exprs l.initial.list;
  same_list : arguments_turned (arguments_resolved (object_at l.objects) (exprs_view l.list)) (exprs_view l.done)
      ≡ arguments_turned (arguments_resolved (object_at l.objects) (exprs_view l.initial.list)) no_arguments;
}

abbrev pub decreases-taken_arguments-loop-list : goal.decreases-taken_arguments-loop-list
decreases-taken_arguments-loop-list l = size-Exprs l.list
