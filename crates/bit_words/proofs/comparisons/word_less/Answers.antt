use Rattle.std.proofs.Common.{◌∙◌, ap, sym}
use Rattle.bit_words.specs.Built.{truth_word}
use Rattle.bit_words.specs.Words.{word_number}
use Rattle.bit_words.proofs.LessValues.{truth_is}
use Rattle.bit_words.proofs.comparisons.word_less.Goals as goal

pub returns-clause-built : goal.returns-clause-built
returns-clause-built c = ap truth_word c.in_ok-lit.ensures.built ∙ (λ i. record { nodes = c.less.new.circuit; word = sym c.in_ok-word.ensures i })

pub returns-clause-value : goal.returns-clause-value
returns-clause-value c = λ inputs.
    ap (word_number _ inputs) c.in_ok-word.ensures ∙ truth_is _ inputs _ _ c.nodes-count.ensures.circuit (c.in_ok-lit.ensures.value inputs)
