use Rattle.std.proofs.Common.{◌∙◌, sym}
use Rattle.bit_words.specs.Built.{placed_built}
use Rattle.bit_words.specs.declared.cells.Cell.TheVariants.{Or}
use Rattle.bit_words.proofs.PlacedValues.{or_is}
use Rattle.bit_words.proofs.places.word_or.Goals as goal

pub returns-clause-built : goal.returns-clause-built
returns-clause-built c = (λ i. placed_built c.args.circuit.now Or (sym c.constant.ensures i) c.args.a.now c.args.b.now) ∙ c.in_ok-word.ensures.built

pub returns-clause-value : goal.returns-clause-value
returns-clause-value c = λ inputs.
    or_is _ _ c.args.a.now c.args.b.now _ c.nodes-count.ensures.circuit
    (record { there = c.requires.a_is_there; wide = c.places.ensures.a_wide }) (record { there = c.requires.b_is_there; wide = c.places.ensures.b_wide })
    c.requires.same_kind c.requires.promoted inputs (returns-clause-built c)
