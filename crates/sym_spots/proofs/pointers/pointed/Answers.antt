use Rattle.bit_words.proofs.RippleCarry.{AreThere-later}
use Rattle.sym_spots.proofs.Loops.{pointing_more, pointing_all}
use Rattle.sym_spots.proofs.pointers.pointed.Goals as goal

pub hit-requires-clause-object_is_there : goal.hit-requires-clause-object_is_there
hit-requires-clause-object_is_there c = AreThere-later _ _ _ c.loop-at.invariant.grows c.requires.object_is_there

pub hit-requires-clause-cell_is_there : goal.hit-requires-clause-cell_is_there
hit-requires-clause-cell_is_there c = AreThere-later _ _ _ c.loop-at.invariant.grows c.requires.cell_is_there

pub loop-at-preserved : goal.loop-at-preserved
loop-at-preserved c =
    pointing_more _ _ _ _ _ _ _ _ _ _ _ _ _ _ _ c.loop-at.invariant c.loop-at-test.true c.in_ok-here.ensures.built c.in_ok-one.ensures.built c.in_ok-here.ensures.there c.in_ok-one.ensures.there c.in_ok-here.ensures.grows c.in_ok-one.ensures.grows c.in_ok-push_aim.ensures

pub returns-clause-built : goal.returns-clause-built
returns-clause-built c = pointing_all _ _ _ _ _ _ _ _ _ c.loop-at.invariant c.loop-at-test.false
