use Rattle.std.proofs.Common.{◌<◌, length, arith, false, subst}
use Rattle.aig_build.specs.Circuits.{constant}
use Rattle.aig_build.proofs.Nodes.{Grows-length}
use Rattle.bit_words.proofs.RippleCarry.{AreThere-at, rippling_more, rippling_all, ripple_width, ripple-makes}
use Rattle.bit_words.specs.Built.{MadeBits}
use Rattle.bit_words.specs.Words.{AreThere}
use Rattle.bit_words.proofs.ripples.ripple.Goals as goal

pub make_cell-requires-clause-a_is_there : goal.make_cell-requires-clause-a_is_there
make_cell-requires-clause-a_is_there c =
    let there = AreThere-at _ _ c.loop-at.at (constant false) c.requires.a_is_there c.loop-at-test.true in
    omega (arith, there, Grows-length _ _ c.loop-at.invariant.grows)

pub make_cell-requires-clause-b_is_there : goal.make_cell-requires-clause-b_is_there
make_cell-requires-clause-b_is_there c =
    let e = c.requires.same_width in
    let p = c.loop-at-test.true in
    let below : c.loop-at.at < length c.args.b.now = omega arith in
    let there = AreThere-at _ _ c.loop-at.at (constant false) c.requires.b_is_there below in
    omega (arith, there, Grows-length _ _ c.loop-at.invariant.grows)

pub loop-at-preserved : goal.loop-at-preserved
loop-at-preserved c =
    let f = c.in_ok-bit.ensures in
    let e = c.requires.same_width in
    let p = c.loop-at-test.true in
    let below : c.loop-at.at < length c.args.b.now = omega arith in
    rw c.in_ok-push.ensures (rippling_more _ _ _ _ _ _ _ _ _ c.loop-at.invariant _ _ p below f.built f.grows f.carry_there)

pub returns-clause-built : goal.returns-clause-built
returns-clause-built c = rippling_all _ _ _ _ _ _ _ _ _ c.loop-at.invariant c.loop-at-test.false

pub returns-clause-width : goal.returns-clause-width
returns-clause-width c = ripple_width _ _ _ _ _ _ (returns-clause-built c) c.requires.same_width

pub returns-clause-bits_there : goal.returns-clause-bits_there
returns-clause-bits_there c =
    let makes = ripple-makes c.args.which _ _ _ _ c.nodes-count.ensures.circuit c.requires.carry_is_there c.requires.a_is_there c.requires.b_is_there c.requires.same_width in
    subst (λ (m : MadeBits). AreThere m.nodes m.bits) (returns-clause-built c) makes.there

pub returns-clause-carry_there : goal.returns-clause-carry_there
returns-clause-carry_there c =
    let makes = ripple-makes c.args.which _ _ _ _ c.nodes-count.ensures.circuit c.requires.carry_is_there c.requires.a_is_there c.requires.b_is_there c.requires.same_width in
    subst (λ (m : MadeBits). m.carry.node < length m.nodes) (returns-clause-built c) makes.carry_there
