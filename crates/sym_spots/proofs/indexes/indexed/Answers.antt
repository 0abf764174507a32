use Rattle.aig_build.proofs.Nodes.{Grows-trans}
use Rattle.bit_words.proofs.RippleCarry.{AreThere-later}
use Rattle.sym_spots.proofs.Loops.{aims_later, index_more, index_all}
use Rattle.sym_spots.proofs.indexes.indexed.Goals as goal

pub index_tests-requires : goal.index_tests-requires
index_tests-requires c = record { registers_are_there = AreThere-later _ _ _ c.loop-at.invariant.grows c.requires.registers_are_there }

pub spread-requires-clause-aims_are_there : goal.spread-requires-clause-aims_are_there
spread-requires-clause-aims_are_there c =
    rw c.deref.ensures.value (aims_later _ _ _ (Grows-trans _ _ _ c.in_ok-tests.ensures.grows c.in_ok-all.ensures.grows) c.loop-at.invariant.aims_there)

pub spread-requires-clause-tests_are_there : goal.spread-requires-clause-tests_are_there
spread-requires-clause-tests_are_there c = rw c.deref-in-loop-at.ensures.value (AreThere-later _ _ _ c.in_ok-all.ensures.grows c.in_ok-tests.ensures.lits_there)

pub loop-at-preserved : goal.loop-at-preserved
loop-at-preserved c =
    index_more _ _ _ _ _ _ _ _ _ _ _ _ _ _ _ _ _ _ c.loop-at.invariant c.loop-at-test.true c.in_ok-tests.ensures.built c.in_ok-all.ensures.built c.deref-in-loop-at.ensures.value c.deref.ensures.value
    c.in_ok-next.ensures.built c.in_ok-tests.ensures.grows c.in_ok-all.ensures.grows c.in_ok-next.ensures.grows c.in_ok-all.ensures.there c.in_ok-next.ensures.there

pub returns-clause-built : goal.returns-clause-built
returns-clause-built c = index_all _ _ _ _ _ _ _ _ c.loop-at.invariant c.loop-at-test.false
