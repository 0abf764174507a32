use Rattle.std.proofs.Common.{◌∙◌, ap, sym, subst}
use Rattle.bit_words.specs.Built.{placed_built, zero_word}
use Rattle.bit_words.specs.Words.{LitWord, AreThere}
use Rattle.bit_words.specs.declared.cells.Cell.TheVariants.{Sum}
use Rattle.bit_words.proofs.PlacedValues.{AreThere-flipped}
use Rattle.bit_words.proofs.UnaryValues.{AreThere-zero, negative_is}
use Rattle.bit_words.proofs.unaries.word_negative.Goals as goal

pub places-requires-clause-a_is_there : goal.places-requires-clause-a_is_there
places-requires-clause-a_is_there c = subst (λ (w : LitWord). AreThere c.args.circuit.now w.bits) (sym c.in_ok-none.ensures) (AreThere-zero _ c.a.inside.kind c.nodes-count.ensures.circuit)

pub places-requires-clause-b_is_there : goal.places-requires-clause-b_is_there
places-requires-clause-b_is_there c =
    subst (λ (w : LitWord). AreThere c.args.circuit.now w.bits) (sym c.in_ok-other.ensures.bits) (AreThere-flipped _ _ c.requires.a_is_there)

pub returns-clause-built : goal.returns-clause-built
returns-clause-built c =
    (λ i. placed_built c.args.circuit.now Sum (sym c.constant.ensures i) (sym (c.in_ok-none.ensures ∙ ap (λ (w : LitWord). zero_word w.kind) c.a.view_is) i) (sym c.in_ok-other.ensures.bits i)) ∙ c.in_ok-word.ensures.built

pub returns-clause-value : goal.returns-clause-value
returns-clause-value c = λ inputs.
    negative_is _ _ c.args.a.now _ c.nodes-count.ensures.circuit (record { there = c.requires.a_is_there; wide = c.flip.ensures.wide })
    c.requires.promoted inputs (returns-clause-built c)
