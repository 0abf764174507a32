use Rattle.std.proofs.Common.{◌≡◌}
use Rattle.flat_memory.specs.Cells.{with_cleared}
use Rattle.flat_memory.proofs.ranges.clear.Given as goal

abbrev pub invariant-cells : goal.invariant-cells
invariant-cells l = with_cleared l.at l.left l.cells ≡ with_cleared l.initial.at l.initial.left l.initial.cells

abbrev pub decreases-cells : goal.decreases-cells
decreases-cells l = l.left
