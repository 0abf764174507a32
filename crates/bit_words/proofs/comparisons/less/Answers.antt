use Rattle.std.proofs.Common.{◌∙◌, sym, subst}
use Rattle.bit_words.specs.Built.{carried_built}
use Rattle.bit_words.specs.Words.{LitWord, AreThere}
use Rattle.bit_words.specs.declared.cells.Cell.TheVariants.{Less}
use Rattle.bit_words.proofs.LessValues.{AreThere-ordered_word, order_is}
use Rattle.bit_words.proofs.comparisons.less.Goals as goal

pub carried_words-requires-clause-a_is_there : goal.carried_words-requires-clause-a_is_there
carried_words-requires-clause-a_is_there c =
    subst (λ (w : LitWord). AreThere c.args.circuit.now w.bits) (sym c.in_ok-first.ensures.bits) (AreThere-ordered_word _ c.args.a.now (record { there = c.requires.a_is_there; wide = c.in_order.ensures.wide }))

pub carried_words-requires-clause-b_is_there : goal.carried_words-requires-clause-b_is_there
carried_words-requires-clause-b_is_there c =
    subst (λ (w : LitWord). AreThere c.args.circuit.now w.bits) (sym c.in_ok-second.ensures.bits) (AreThere-ordered_word _ c.args.b.now (record { there = c.requires.b_is_there; wide = c.in_order-2.ensures.wide }))

pub returns-clause-built : goal.returns-clause-built
returns-clause-built c =
    (λ i. carried_built c.args.circuit.now Less (sym c.constant.ensures i) (sym c.in_ok-first.ensures.bits i).bits (sym c.in_ok-second.ensures.bits i).bits) ∙ c.in_ok-lit.ensures.built

pub returns-clause-value : goal.returns-clause-value
returns-clause-value c = λ inputs.
    order_is _ _ c.args.or_equal _ c.args.a.now c.args.b.now c.nodes-count.ensures.circuit
    (record { there = c.requires.a_is_there; wide = c.in_order.ensures.wide }) (record { there = c.requires.b_is_there; wide = c.in_order-2.ensures.wide })
    c.requires.same_kind (returns-clause-built c) inputs
