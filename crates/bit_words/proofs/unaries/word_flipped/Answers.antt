use Rattle.bit_words.proofs.UnaryValues.{flipped_is}
use Rattle.std.proofs.Common.{sym, subst}
use Rattle.bit_words.specs.Words.{LitWord, AreThere}
use Rattle.bit_words.proofs.PlacedValues.{AreThere-flipped}
use Rattle.bit_words.proofs.unaries.word_flipped.Goals as goal

pub returns-clause-there : goal.returns-clause-there
returns-clause-there c = subst (λ (w : LitWord). AreThere c.args.circuit.now w.bits) (sym c.in_ok-word.ensures.bits) (AreThere-flipped _ _ c.requires.a_is_there)

pub returns-clause-value : goal.returns-clause-value
returns-clause-value c = λ inputs.
    flipped_is c.args.circuit.now c.args.a.now _ (record { there = c.requires.a_is_there; wide = c.flip.ensures.wide }) c.requires.promoted inputs c.in_ok-word.ensures.bits
