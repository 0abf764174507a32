use Rattle.std.proofs.Common.{◌<ℤ◌, pos, arith, rules}
use Rattle.std.specs.Int.{w64}
use Rattle.std.proofs.lemmas.Int.{ints, quot_is, quot_fits}
use Rattle.rvt_num.specs.declared.operations.BinOp.TheVariants as B
use Rattle.c_cells.proofs.Exact.{gives, no_division_trap}
use Rattle.c_cells.proofs.quick.quotient.Goals as goal

pub returns : goal.returns
returns c =
    let above : pos 0 <ℤ c.args.y = omega (arith, ints) in
    gives B.Div (record { kind = c.args.kind; value = c.args.x }) (record { kind = c.args.other; value = c.args.y }) _ _
    (no_division_trap (record { kind = c.args.kind; value = c.args.x }) c.args.other c.args.y above) c.wrapped.ensures
    (quot_is w64 c.args.x c.args.y (search rules) (search rules) (quot_fits w64 c.args.x c.args.y (search rules) above))
