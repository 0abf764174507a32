use Rattle.std.proofs.Common.{◌<◌, length, arith, false, ap}
use Rattle.aig_build.specs.Circuits.{constant}
use Rattle.aig_build.proofs.Nodes.{Grows-length}
use Rattle.bit_words.specs.Built.{MadeBits}
use Rattle.bit_words.proofs.RippleCarry.{AreThere-at, rippling_more, rippling_all}
use Rattle.bit_words.proofs.ripples.carried.Goals as goal

pub make_cell-requires-clause-a_is_there : goal.make_cell-requires-clause-a_is_there
make_cell-requires-clause-a_is_there c =
    let there = AreThere-at _ _ c.loop-at.at (constant false) c.requires.a_is_there c.loop-at-test.true in
    omega (arith, there, Grows-length _ _ c.loop-at.invariant.rippling.grows)

pub make_cell-requires-clause-b_is_there : goal.make_cell-requires-clause-b_is_there
make_cell-requires-clause-b_is_there c =
    let e = c.requires.same_width in
    let p = c.loop-at-test.true in
    let below : c.loop-at.at < length c.args.b.now = omega arith in
    let there = AreThere-at _ _ c.loop-at.at (constant false) c.requires.b_is_there below in
    omega (arith, there, Grows-length _ _ c.loop-at.invariant.rippling.grows)

pub loop-at-preserved : goal.loop-at-preserved
loop-at-preserved c =
    let f = c.in_ok-next.ensures in
    let e = c.requires.same_width in
    let p = c.loop-at-test.true in
    let below : c.loop-at.at < length c.args.b.now = omega arith in
    record { bits = _; rippling = rippling_more _ _ _ _ _ _ _ _ _ c.loop-at.invariant.rippling _ _ p below f.built f.grows f.carry_there }

pub returns-clause-built : goal.returns-clause-built
returns-clause-built c =
    ap (λ (m : MadeBits). record { nodes = m.nodes; lit = m.carry }) (rippling_all _ _ _ _ _ _ _ _ _ c.loop-at.invariant.rippling c.loop-at-test.false)
