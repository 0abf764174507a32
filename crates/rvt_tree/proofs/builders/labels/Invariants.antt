use Rattle.std.proofs.Common.{◌≡◌, ◌++◌, vec_len}
use Rattle.rvt_tree.specs.Views.{labels_view}
use Rattle.rvt_tree.proofs.builders.labels.Given as goal

abbrev pub invariant-loop-last : goal.invariant-loop-last
invariant-loop-last l = l.items.items ++ labels_view l.list ≡ l.fn.items.items

abbrev pub decreases-loop-last : goal.decreases-loop-last
decreases-loop-last l = vec_len l.items
