use Rattle.std.proofs.Common.{arith}
use Rattle.std.proofs.lemmas.Int.{ints}
use Rattle.c_cells.proofs.Values.{product_zero_left, product_zero_right, product_above}
use Rattle.c_cells.proofs.wide.truth_product.Goals as goal

pub returns-then-x-eq0 : goal.returns-then-x-eq0
returns-then-x-eq0 c = product_zero_left c.args.x c.args.y (omega (arith, ints))

pub returns-then-y-eq0 : goal.returns-then-y-eq0
returns-then-y-eq0 c = product_zero_right c.args.x c.args.y (omega (arith, ints))

pub returns-else-y-eq0 : goal.returns-else-y-eq0
returns-else-y-eq0 c = product_above c.args.x c.args.y (omega (arith, ints)) (omega (arith, ints))
