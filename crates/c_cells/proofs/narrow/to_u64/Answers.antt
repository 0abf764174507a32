use Rattle.std.proofs.Common.{pos, of_z, sym, ap, ◌∙◌, rules}
use Rattle.std.specs.Int.{w64}
use Rattle.std.proofs.lemmas.Int.{to_z-of_z}
use Rattle.c_cells.proofs.Cuts.{pattern_unsigned}
use Rattle.c_cells.proofs.narrow.to_u64.Goals as goal

pub returns : goal.returns
returns c =
    let passed = to_z-of_z w64 c.args.value (search rules) in
    ap pos (pattern_unsigned c.args.value (search rules) ∙ sym (c.cast_unsigned.ensures ∙ ap (of_z w64) passed))
