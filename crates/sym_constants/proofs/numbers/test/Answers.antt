use Rattle.std.proofs.Common.{◌<◌, ◌-◌, length, arith, false}
use Rattle.aig_build.proofs.Nodes.{Grows-length, Grows-trans}
use Rattle.aig_build.specs.Circuits.{constant}
use Rattle.bit_words.proofs.RippleCarry.{AreThere-at}
use Rattle.sym_constants.proofs.Testing.{test_first, test_more, test_all}
use Rattle.sym_constants.proofs.numbers.test.Goals as goal

pub bits-init : goal.bits-init
bits-init c = test_first _ _ _ _ _ c.first-lit.ensures.same c.first-lit.ensures.there

pub and-requires-clause-a_is_there : goal.and-requires-clause-a_is_there
and-requires-clause-a_is_there c = c.bits.invariant.there

pub and-requires-clause-b_is_there : goal.and-requires-clause-b_is_there
and-requires-clause-b_is_there c =
    let h = c.bits-test.true in
    let below : length c.args.bits.now - 1 - c.bits.done < length c.args.bits.now = omega arith in
    let there = AreThere-at _ _ _ (constant false) c.requires.bits_are_there below in
    omega (arith, there, c.as_lowest.ensures.there, Grows-length _ _ c.bits.invariant.grows)

pub bits-preserved : goal.bits-preserved
bits-preserved c = test_more _ _ _ _ _ _ _ _ _ _ _ c.bits-test.true c.bits.invariant c.as_lowest.ensures.same c.in_ok-lit.ensures.built c.in_ok-lit.ensures.grows c.in_ok-lit.ensures.there

pub returns-in_err-lit-clause-grows : goal.returns-in_err-lit-clause-grows
returns-in_err-lit-clause-grows c = Grows-trans _ _ _ c.bits.invariant.grows c.and.ensures.grows

pub returns-clause-built : goal.returns-clause-built
returns-clause-built c = test_all _ _ _ _ _ _ _ c.bits-test.false c.bits.invariant

pub returns-clause-there : goal.returns-clause-there
returns-clause-there c = c.bits.invariant.there

pub returns-clause-grows : goal.returns-clause-grows
returns-clause-grows c = c.bits.invariant.grows
