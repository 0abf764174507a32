use Rattle.std.proofs.Common.{◌≡◌, ◌++◌, length}
use Rattle.rvt_run.specs.Joined.{owner_nodes}
use Rattle.rvt_run.proofs.joined.owner_nodes.Given as goal

-- the nodes so far, and those of the objects that are left
abbrev pub invariant-objects : goal.invariant-objects
invariant-objects l = l.nodes.items ++ owner_nodes l.of_new l.old_count l.left l.right ≡ owner_nodes l.of_new l.old_count l.initial.left l.initial.right

abbrev pub decreases-objects : goal.decreases-objects
decreases-objects l = length l.left
