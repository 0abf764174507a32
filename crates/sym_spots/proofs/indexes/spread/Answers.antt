use Rattle.bit_words.proofs.RippleCarry.{AreThere-later}
use Rattle.sym_spots.proofs.Loops.{spread_more, spread_all}
use Rattle.sym_spots.proofs.indexes.spread.Goals as goal

pub spread_one-requires-clause-tests_are_there : goal.spread_one-requires-clause-tests_are_there
spread_one-requires-clause-tests_are_there c = AreThere-later _ _ _ c.loop-at.invariant.grows c.requires.tests_are_there

pub loop-at-preserved : goal.loop-at-preserved
loop-at-preserved c = spread_more _ _ _ _ _ _ _ _ _ _ c.loop-at.invariant c.loop-at-test.true c.in_ok-spread_one.ensures.built c.in_ok-spread_one.ensures.there c.in_ok-spread_one.ensures.grows

pub returns-clause-built : goal.returns-clause-built
returns-clause-built c = spread_all _ _ _ _ _ _ _ c.loop-at.invariant c.loop-at-test.false
