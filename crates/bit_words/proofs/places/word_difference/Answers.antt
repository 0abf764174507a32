use Rattle.std.proofs.Common.{◌∙◌, sym, subst}
use Rattle.bit_words.specs.Built.{placed_built}
use Rattle.bit_words.specs.Words.{LitWord, AreThere}
use Rattle.bit_words.specs.declared.cells.Cell.TheVariants.{Sum}
use Rattle.bit_words.proofs.PlacedValues.{AreThere-flipped, difference_is}
use Rattle.bit_words.proofs.places.word_difference.Goals as goal

pub places-requires-clause-b_is_there : goal.places-requires-clause-b_is_there
places-requires-clause-b_is_there c =
    subst (λ (w : LitWord). AreThere c.args.circuit.now w.bits) (sym c.in_ok-other.ensures.bits) (AreThere-flipped _ _ c.requires.b_is_there)

pub returns-clause-built : goal.returns-clause-built
returns-clause-built c = (λ i. placed_built c.args.circuit.now Sum (sym c.constant.ensures i) c.args.a.now (sym c.in_ok-other.ensures.bits i)) ∙ c.in_ok-word.ensures.built

pub returns-clause-value : goal.returns-clause-value
returns-clause-value c = λ inputs.
    difference_is _ _ c.args.a.now c.args.b.now _ c.nodes-count.ensures.circuit
    (record { there = c.requires.a_is_there; wide = c.places.ensures.a_wide }) (record { there = c.requires.b_is_there; wide = c.flip.ensures.wide })
    c.requires.same_kind c.requires.promoted inputs (returns-clause-built c)
