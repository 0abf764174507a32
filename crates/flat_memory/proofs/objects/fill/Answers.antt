use Rattle.std.proofs.Common.{◌∙◌, ap, sym, set}
use Rattle.flat_memory.proofs.Copying.{copied_more}
use Rattle.flat_memory.proofs.objects.fill.Goals as goal

pub loop-at-preserved : goal.loop-at-preserved
loop-at-preserved c =
    c.set.ensures
    ∙ ap (set c.loop-at.stack c.loop-at.at) c.of.ensures
    ∙ copied_more c.args.values.now c.args.stack.now c.loop-at.stack c.loop-at.at c.index-values-at.result (sym c.requires) c.loop-at-test.true c.index-values-at.is c.loop-at.invariant
