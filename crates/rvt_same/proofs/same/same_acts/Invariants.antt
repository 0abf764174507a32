use Rattle.std.proofs.Common.{◌↔◌}
use Rattle.rvt_tree.specs.Views.{acts_view}
use Rattle.rvt_tree.specs.Same.{SameActions}
use Rattle.rvt_same.proofs.same.same_acts.Given as goal

abbrev pub invariant-loop-left : goal.invariant-loop-left
invariant-loop-left l = SameActions l.fn.pairing (acts_view l.left) (acts_view l.right) ↔ SameActions l.fn.pairing (acts_view l.initial.left) (acts_view l.initial.right)
