use Rattle.bit_words.proofs.RippleCarry.{AreThere-later}
use Rattle.bit_words.proofs.WordValues.{some_nodes}
use Rattle.sym_spots.proofs.Loops.{testing_first, testing_more}
use Rattle.sym_spots.proofs.indexes.word_tests.Goals as goal

pub loop-number-init : goal.loop-number-init
loop-number-init c = testing_first _ _ _ _ c.new-lits.ensures.items c.constant-any.ensures (some_nodes _ c.nodes-count.ensures.circuit)

pub word_test-requires : goal.word_test-requires
word_test-requires c = record { word_is_there = AreThere-later _ _ _ c.loop-number.invariant.grows c.requires.word_is_there }

pub loop-number-preserved : goal.loop-number-preserved
loop-number-preserved c =
    testing_more _ _ _ _ _ _ _ _ _ _ _ c.loop-number.invariant c.in_ok-lit.ensures.built c.in_ok-one.ensures.built c.in_ok-lit.ensures.there c.in_ok-one.ensures.there c.in_ok-lit.ensures.grows c.in_ok-one.ensures.grows c.in_ok-push.ensures
