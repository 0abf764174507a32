use Rattle.std.proofs.Common.{◌≡◌, [], vec_len}
use Rattle.rvt_tree.specs.Views.{acts_view, acts_before}
use Rattle.rvt_tree.proofs.builders.actions.Given as goal

abbrev pub invariant-loop-last : goal.invariant-loop-last
invariant-loop-last l = acts_before l.items.items (acts_view l.list) ≡ acts_before l.fn.items.items []

abbrev pub decreases-loop-last : goal.decreases-loop-last
decreases-loop-last l = vec_len l.items
