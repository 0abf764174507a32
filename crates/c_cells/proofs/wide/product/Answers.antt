use Rattle.std.proofs.Common.{ap, ◌∙◌, arith, rules}
use Rattle.std.proofs.lemmas.Int.{ints, to_z-of_z}
use Rattle.rvt_num.specs.Wrapping.{pattern_of, wrap}
use Rattle.rvt_num.specs.Kinds.{width}
use Rattle.std.specs.Int.{w128}
use Rattle.c_cells.proofs.Values.{wrap_product}
use Rattle.c_cells.proofs.wide.product.Goals as goal

pub returns : goal.returns
returns c =
    ap (wrap c.args.kind) (omega (arith, ints))
    ∙ wrap_product c.args.kind c.args.x c.args.y _ _ (search rules) (c.low_bits.ensures.value ∙ ap (pattern_of (width c.args.kind)) (to_z-of_z w128 c.args.x (search rules))) (c.low_bits-2.ensures.value ∙ ap (pattern_of (width c.args.kind)) (to_z-of_z w128 c.args.y (search rules)))
