use Rattle.std.proofs.Common.{arith}
use Rattle.std.proofs.lemmas.Int.{ints}
use Rattle.c_cells.proofs.Cuts.{short_fits}
use Rattle.c_cells.proofs.cells.short_value.Goals as goal

pub overflow_cast-result : goal.overflow_cast-result
overflow_cast-result c =
    let f = short_fits c.args.number.kind c.value.result c.requires c.value.ensures.in_range in
    let l = f.0 in
    let h = f.1 in
    omega (arith, ints)
