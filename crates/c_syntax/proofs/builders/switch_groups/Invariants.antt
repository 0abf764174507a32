use Rattle.std.proofs.Common.{◌≡◌, map, vec_len}
use Rattle.c_syntax.specs.Syntax.{groups_before, groups_of}
use Rattle.c_syntax.specs.Views.{group_view, groups_view}
use Rattle.c_syntax.proofs.builders.switch_groups.Given as goal

abbrev pub invariant-loop-labels : goal.invariant-loop-labels
invariant-loop-labels l = groups_before (map group_view l.items.items) (groups_view l.list) ≡ groups_of (map group_view l.fn.items.items)

abbrev pub decreases-loop-labels : goal.decreases-loop-labels
decreases-loop-labels l = vec_len l.items
