use Rattle.std.proofs.Common.{◌≡◌, length}
use Rattle.aig_build.specs.Circuits.{Grows}
use Rattle.bit_words.specs.Words.{AreThere}
use Rattle.word_examples.proofs.tests.input_word.Given as goal

abbrev pub invariant-loop-at : goal.invariant-loop-at
invariant-loop-at l = AreThere l.circuit l.bits.items × (length l.bits.items ≡ l.at) × Grows l.initial.circuit l.circuit
