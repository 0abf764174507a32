use Rattle.std.proofs.Common.{◌≡◌, vec_len}
use Rattle.rvt_tree.specs.Syntax.{no_groups}
use Rattle.rvt_tree.specs.Views.{groups_view, groups_before}
use Rattle.rvt_tree.proofs.builders.groups.Given as goal

abbrev pub invariant-loop-labels : goal.invariant-loop-labels
invariant-loop-labels l = groups_before l.items.items (groups_view l.list) ≡ groups_before l.fn.items.items no_groups

abbrev pub decreases-loop-labels : goal.decreases-loop-labels
decreases-loop-labels l = vec_len l.items
