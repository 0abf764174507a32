use Rattle.std.proofs.Common.{refl, arith}
use Rattle.std.proofs.lemmas.Int.{ints}
use Rattle.rvt_num.specs.declared.operations.BinOp.TheVariants as B
use Rattle.c_cells.proofs.Exact.{gives}
use Rattle.c_cells.proofs.Bits.{bits_xor}
use Rattle.c_cells.proofs.quick.difference.Goals as goal

pub returns : goal.returns
returns c =
    gives B.Xor (record { kind = c.args.kind; value = c.args.x }) (record { kind = c.args.other; value = c.args.y }) _ _ refl c.wrapped.ensures
    (bits_xor c.args.kind c.args.other c.args.x c.args.y c.requires.left c.requires.right (omega (arith, ints)) (omega (arith, ints)) (omega (arith, ints)) (omega (arith, ints)))
