use Rattle.std.proofs.Common.{◌<◌, length, arith, false}
use Rattle.aig_build.proofs.Nodes.{Grows-length}
use Rattle.aig_build.specs.Circuits.{constant}
use Rattle.bit_words.proofs.RippleCarry.{AreThere-at}
use Rattle.sym_store.proofs.MergingSteps.{lits_first, lits_more, lits_all, lits_long}
use Rattle.sym_store.proofs.merging.merge_lits.Goals as goal

pub loop-at-init : goal.loop-at-init
loop-at-init c = lits_first _ _ _ _ _ c.new-lits.ensures.items

pub merge_lit-requires-clause-which_is_there : goal.merge_lit-requires-clause-which_is_there
merge_lit-requires-clause-which_is_there c = let w = c.requires.which_is_there in omega (arith, Grows-length _ _ c.loop-at.invariant.grows)

pub merge_lit-requires-clause-a_is_there : goal.merge_lit-requires-clause-a_is_there
merge_lit-requires-clause-a_is_there c =
    let there = AreThere-at _ _ c.loop-at.at (constant false) c.requires.first_is_there c.loop-at-test.true in
    omega (arith, there, Grows-length _ _ c.loop-at.invariant.grows)

pub merge_lit-requires-clause-b_is_there : goal.merge_lit-requires-clause-b_is_there
merge_lit-requires-clause-b_is_there c =
    let e = c.requires.same_width in
    let p = c.loop-at-test.true in
    let below : c.loop-at.at < length c.args.second.now = omega arith in
    let there = AreThere-at _ _ c.loop-at.at (constant false) c.requires.second_is_there below in
    omega (arith, there, Grows-length _ _ c.loop-at.invariant.grows)

pub loop-at-preserved : goal.loop-at-preserved
loop-at-preserved c =
    let f = c.in_ok-lit.ensures in
    let e = c.requires.same_width in
    let p = c.loop-at-test.true in
    let below : c.loop-at.at < length c.args.second.now = omega arith in
    rw c.in_ok-push.ensures (lits_more _ _ _ _ _ _ _ c.loop-at.invariant _ _ _ p below f.built f.grows f.there)

pub returns-clause-built : goal.returns-clause-built
returns-clause-built c = lits_all _ _ _ _ _ _ _ c.loop-at.invariant c.loop-at-test.false

pub returns-clause-width : goal.returns-clause-width
returns-clause-width c = lits_long _ _ _ _ _ (returns-clause-built c) c.requires.same_width
