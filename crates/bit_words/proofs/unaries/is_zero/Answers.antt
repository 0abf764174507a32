use Rattle.std.proofs.Common.{◌∙◌, ap, sym, subst}
use Rattle.rvt_num.specs.Operations.{int_eq}
use Rattle.bit_words.specs.Built.{equal_built, zero_word}
use Rattle.bit_words.specs.Words.{LitWord, AreThere, word_number}
use Rattle.bit_words.proofs.UnaryValues.{AreThere-zero, zero_value}
use Rattle.bit_words.proofs.unaries.is_zero.Goals as goal

pub equal-requires-clause-b_is_there : goal.equal-requires-clause-b_is_there
equal-requires-clause-b_is_there c = subst (λ (w : LitWord). AreThere c.args.circuit.now w.bits) (sym c.in_ok-none.ensures) (AreThere-zero _ c.a.inside.kind c.nodes-count.ensures.circuit)

pub returns-clause-built : goal.returns-clause-built
returns-clause-built c =
    (λ i. equal_built c.args.circuit.now c.args.a.now (sym (c.in_ok-none.ensures ∙ ap (λ (w : LitWord). zero_word w.kind) c.a.view_is) i)) ∙ c.in_ok-lit.ensures.built

pub returns-clause-value : goal.returns-clause-value
returns-clause-value c = λ inputs.
    c.in_ok-lit.ensures.value inputs
    ∙ ap (int_eq (word_number c.args.circuit.now inputs c.args.a.now).value) (ap (λ (w : LitWord). (word_number c.args.circuit.now inputs w).value) c.in_ok-none.ensures ∙ zero_value _ inputs c.a.inside.kind c.nodes-count.ensures.circuit)
