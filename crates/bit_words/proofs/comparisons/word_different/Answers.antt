use Rattle.std.proofs.Common.{◌∙◌, ap, not}
use Rattle.aig_build.specs.Circuits.{lit_value}
use Rattle.bit_words.specs.Words.{word_number}
use Rattle.bit_words.proofs.Computing.{lit_value-opposite}
use Rattle.bit_words.proofs.LessValues.{truth_is}
use Rattle.bit_words.proofs.comparisons.word_different.Goals as goal

pub returns-clause-value : goal.returns-clause-value
returns-clause-value c = λ inputs.
    ap (word_number _ inputs) c.in_ok-word.ensures
    ∙ truth_is _ inputs _ _ c.nodes-count.ensures.circuit (ap (lit_value _ inputs) c.opposite.ensures ∙ lit_value-opposite _ inputs c.in_ok-lit.lit ∙ ap not (c.in_ok-lit.ensures.value inputs))
