use Rattle.std.proofs.Common.{◌∙◌}
use Rattle.c_places.proofs.Copying.{copied_more}
use Rattle.c_places.proofs.locals.copy_into.Goals as goal

pub loop-at-preserved : goal.loop-at-preserved
loop-at-preserved c =
    c.set.ensures
    ∙ copied_more c.args.cells.now c.args.to.now c.loop-at.to c.loop-at.at c.index-cells-at.result c.requires c.loop-at-test.true c.index-cells-at.is c.loop-at.invariant
