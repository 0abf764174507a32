use Rattle.std.proofs.Common.{◌<ℤ◌, pos, arith, rules}
use Rattle.std.specs.Int.{w64}
use Rattle.std.proofs.lemmas.Int.{ints, rem_is}
use Rattle.rvt_num.specs.declared.operations.BinOp.TheVariants as B
use Rattle.c_cells.proofs.Exact.{gives, no_division_trap}
use Rattle.c_cells.proofs.quick.remainder.Goals as goal

pub returns : goal.returns
returns c =
    let above : pos 0 <ℤ c.args.y = omega (arith, ints) in
    gives B.Rem (record { kind = c.args.kind; value = c.args.x }) (record { kind = c.args.other; value = c.args.y }) _ _
    (no_division_trap (record { kind = c.args.kind; value = c.args.x }) c.args.other c.args.y above) c.wrapped.ensures
    (rem_is w64 c.args.x c.args.y (search rules) (search rules))
