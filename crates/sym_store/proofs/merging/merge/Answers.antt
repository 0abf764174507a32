use Rattle.std.proofs.Common.{◌<◌, length, arith}
use Rattle.aig_build.proofs.Nodes.{Grows-length}
use Rattle.bit_words.proofs.RippleCarry.{AreThere-later}
use Rattle.sym_store.proofs.MergingSteps.{values_first, values_more, values_all, alike_long, alike_at, value_there}
use Rattle.sym_store.proofs.merging.merge.Goals as goal

pub loop-at-init : goal.loop-at-init
loop-at-init c = values_first _ _ _ _ _ c.new-values.ensures.items

pub bounds-second-at : goal.bounds-second-at
bounds-second-at c = let e = alike_long _ _ c.requires.alike in let p = c.loop-at-test.true in omega arith

pub merge_value-requires-clause-which_is_there : goal.merge_value-requires-clause-which_is_there
merge_value-requires-clause-which_is_there c = let w = c.requires.which_is_there in omega (arith, Grows-length _ _ c.loop-at.invariant.grows)

pub merge_value-requires-clause-first_is_there : goal.merge_value-requires-clause-first_is_there
merge_value-requires-clause-first_is_there c =
    AreThere-later _ _ _ c.loop-at.invariant.grows (value_there _ _ _ _ c.requires.first_is_there c.loop-at-test.true c.index-first-at.is)

pub merge_value-requires-clause-second_is_there : goal.merge_value-requires-clause-second_is_there
merge_value-requires-clause-second_is_there c =
    let e = alike_long _ _ c.requires.alike in
    let p = c.loop-at-test.true in
    let below : c.loop-at.at < length c.args.second.now = omega arith in
    AreThere-later _ _ _ c.loop-at.invariant.grows (value_there _ _ _ _ c.requires.second_is_there below c.index-second-at.is)

pub merge_value-requires-clause-alike : goal.merge_value-requires-clause-alike
merge_value-requires-clause-alike c = alike_at _ _ _ _ _ c.requires.alike c.loop-at-test.true c.index-first-at.is c.index-second-at.is

pub loop-at-preserved : goal.loop-at-preserved
loop-at-preserved c =
    let f = c.in_ok-value.ensures in
    let e = alike_long _ _ c.requires.alike in
    let p = c.loop-at-test.true in
    let below : c.loop-at.at < length c.args.second.now = omega arith in
    rw c.in_ok-push_value.ensures (values_more _ _ _ _ _ _ _ c.loop-at.invariant _ _ _ _ p below c.index-first-at.is c.index-second-at.is f.built f.grows f.there)

pub returns-clause-built : goal.returns-clause-built
returns-clause-built c = values_all _ _ _ _ _ _ _ c.loop-at.invariant c.loop-at-test.false
