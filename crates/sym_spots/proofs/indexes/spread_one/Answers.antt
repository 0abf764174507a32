use Rattle.std.proofs.Common.{arith, false}
use Rattle.aig_build.proofs.Nodes.{Grows-length}
use Rattle.aig_build.specs.Circuits.{constant}
use Rattle.bit_words.proofs.RippleCarry.{AreThere-at}
use Rattle.sym_spots.proofs.Loops.{one_more, one_all}
use Rattle.sym_spots.proofs.indexes.spread_one.Goals as goal

pub and-requires-clause-b_is_there : goal.and-requires-clause-b_is_there
and-requires-clause-b_is_there c =
    let there = AreThere-at _ _ c.loop-at.at (constant false) c.requires.tests_are_there c.loop-at-test.true in
    omega (arith, there, Grows-length _ _ c.loop-at.invariant.grows)

pub loop-at-preserved : goal.loop-at-preserved
loop-at-preserved c =
    one_more _ _ _ _ _ _ _ _ _ _ _ _ _ _ _ c.loop-at.invariant c.loop-at-test.true c.in_ok-here.ensures.built c.in_ok-here.ensures.there c.in_ok-here.ensures.grows c.in_ok-push_aim.ensures c.in_ok-target.ensures

pub returns-clause-built : goal.returns-clause-built
returns-clause-built c = one_all _ _ _ _ _ _ _ _ _ _ c.loop-at.invariant c.loop-at-test.false
