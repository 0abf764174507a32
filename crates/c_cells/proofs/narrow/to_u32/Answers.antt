use Rattle.std.proofs.Common.{◌≡◌, pos, to_z, of_z, sym, ap, ◌∙◌, subst, rules}
use Rattle.std.specs.Int.{w64}
use Rattle.std.proofs.lemmas.Int.{to_z-of_z}
use Rattle.rvt_num.specs.declared.kinds.Kind.TheVariants.{U32}
use Rattle.rvt_num.specs.Kinds.{IsOf}
use Rattle.rvt_num.specs.Wrapping.{pattern_of}
use Rattle.rvt_num.proofs.Patterns.{pattern_below}
use Rattle.rvt_num.proofs.Readings.{reading_in_range}
use Rattle.c_cells.proofs.narrow.to_u32.Goals as goal

value : (c : goal.After-from) → to_z w64 (of_z w64 c.from.result) ≡ pos (pattern_of 32 c.args.value)
value c =
    to_z-of_z w64 c.from.result (search rules) ∙ c.from.ensures ∙ ap pos c.low_32.ensures
    ∙ ap (λ z. pos (pattern_of 32 z)) (to_z-of_z w64 c.args.value (search rules))

pub returns-clause-value : goal.returns-clause-value
returns-clause-value c = value c

pub returns-clause-range : goal.returns-clause-range
returns-clause-range c = subst (λ z. IsOf U32 z) (sym (value c)) (reading_in_range U32 (pattern_of 32 c.args.value) (pattern_below 32 c.args.value))
