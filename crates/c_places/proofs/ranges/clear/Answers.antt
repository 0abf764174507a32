use Rattle.std.proofs.Common.{◌≡◌, ◌∙◌, ◌-◌, suc, arith}
use Rattle.c_places.proofs.CellRuns.{cleared_step}
use Rattle.c_places.proofs.ranges.clear.Goals as goal

pub cells-preserved : goal.cells-preserved
cells-preserved c =
    let one_more : suc (c.cells.left - 1) ≡ c.cells.left = omega (arith, c.cells-test.true) in
    cleared_step c.cells.cells c.cells.at c.cells.left (c.cells.left - 1) c.index-cells-at.result c.cleared.result c.if-at-cells.true c.index-cells-at.is c.cleared.ensures one_more
    ∙ c.cells.invariant
