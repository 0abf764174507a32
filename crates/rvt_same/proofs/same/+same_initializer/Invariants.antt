use Rattle.std.proofs.Common.{◌≤◌, ◌↔◌}
use Rattle.rvt_tree.specs.Views.{inits_view}
use Rattle.rvt_tree.specs.declared.statements.Inits.{size-Inits}
use Rattle.rvt_tree.specs.Same.{SameInitializers}
use Rattle.rvt_same.proofs.same.+same_initializer.Given as goal

abbrev pub invariant-same_inits-loop-left : goal.invariant-same_inits-loop-left
invariant-same_inits-loop-left l = record {
  no_deeper : size-Inits l.left ≤ size-Inits l.initial.left;
  same_answer : SameInitializers l.fn.pairing (inits_view l.left) (inits_view l.right) ↔ SameInitializers l.fn.pairing (inits_view l.initial.left) (inits_view l.initial.right);
}
