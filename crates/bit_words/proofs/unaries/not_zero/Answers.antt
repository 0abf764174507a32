use Rattle.std.proofs.Common.{◌∙◌, ap, not}
use Rattle.rvt_num.specs.declared.kinds.Kind.TheVariants.{Bool as BoolKind}
use Rattle.aig_build.specs.Circuits.{lit_value}
use Rattle.bit_words.specs.Words.{word_number}
use Rattle.bit_words.proofs.Computing.{lit_value-opposite}
use Rattle.bit_words.proofs.ConvertValues.{not_zero_is}
use Rattle.bit_words.proofs.unaries.not_zero.Goals as goal

pub returns-clause-value : goal.returns-clause-value
returns-clause-value c = λ inputs.
    ap (λ bits. word_number c.is_zero.new.circuit inputs (record { kind = BoolKind; bits = bits })) c.in_ok-bits.ensures
    ∙ not_zero_is _ inputs _ _ (ap (lit_value _ inputs) c.opposite.ensures ∙ lit_value-opposite _ inputs c.in_ok-lit.lit ∙ ap not (c.in_ok-lit.ensures.value inputs))
