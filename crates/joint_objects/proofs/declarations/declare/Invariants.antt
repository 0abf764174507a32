use Rattle.std.proofs.Common.{◌≡◌, ◌++◌, length}
use Rattle.joint_objects.specs.Locals.{declared_after}
use Rattle.joint_objects.specs.Counts.{AreCounts, declared_views, locals_declared}
use Rattle.joint_objects.proofs.declarations.declare.Given as goal

abbrev pub invariant-locals : goal.invariant-locals
invariant-locals l = record {
  counts : AreCounts l.counts l.list.items;
  added :
      declared_views l.list.items ++ declared_after (locals_declared l.list.items) l.left
      ≡ declared_views l.initial.list.items ++ declared_after (locals_declared l.initial.list.items) l.initial.left;
}

abbrev pub decreases-locals : goal.decreases-locals
decreases-locals l = length l.left
