use Rattle.std.proofs.Common.{arith}
use Rattle.c_operations.proofs.Products.{times_small}
use Rattle.c_operations.proofs.values.times.Goals as goal

pub returns-clause-small : goal.returns-clause-small
returns-clause-small c =
    times_small c.value-count.result c.from.result c.args.size c.value-count.ensures.low c.value-count.ensures.high c.from.ensures (omega arith)
