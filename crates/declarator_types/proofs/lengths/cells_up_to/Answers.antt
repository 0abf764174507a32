use Rattle.std.proofs.Common.{◌<◌, None, length, arith, rules}
use Rattle.declarator_types.proofs.Arrays.{product_step}
use Rattle.declarator_types.proofs.lengths.cells_up_to.Goals as goal

pub loop-length-preserved : goal.loop-length-preserved
loop-length-preserved c =
    let here : c.loop-length.length-index < length c.args.lengths.now = search rules in
    record {
      few = omega (arith, c.min-total-in-loop-length.ensures);
      counts = rw (c.min-total-in-loop-length.ensures, c.count_up_to.ensures)
          (product_step c.args.lengths.now c.loop-length.length-index c.loop-length.total _ None here c.loop-length.invariant.counts);
    }
