use Rattle.std.proofs.Common.{refl, arith}
use Rattle.aig_build.proofs.Nodes.{Grows-refl}
use Rattle.bit_words.proofs.RippleCarry.{AreThere-later}
use Rattle.uf_abstraction.proofs.Loops.{IsGrown-step, results_all, results_step, value_there}
use Rattle.uf_abstraction.proofs.pointers.with_results.Goals as goal

pub results-init : goal.results-init
results-init c = (refl, record { grows = Grows-refl _; there = c.requires.so_far_is_there })

pub with_result-requires-clause-value_is_there : goal.with_result-requires-clause-value_is_there
with_result-requires-clause-value_is_there c =
    let long = c.requires.one_a_shape in
    let below = c.results-test.true in
    AreThere-later _ _ _ c.results.invariant.1.grows (value_there _ _ c.results.at _ c.requires.values_are_there (omega (arith, long, below)) c.index-values-at.is)

pub results-preserved : goal.results-preserved
results-preserved c =
    let long = c.requires.one_a_shape in
    let below = c.results-test.true in
    let f = c.in_ok-lit.ensures in
    (results_step _ _ _ c.results.at _ _ _ _ _ below (omega (arith, long, below)) c.index-values-at.is c.results.invariant.0 f.built, IsGrown-step _ _ _ _ _ c.results.invariant.1 f.grows f.there)

pub returns-clause-built : goal.returns-clause-built
returns-clause-built c = results_all _ _ _ c.results.at _ _ c.results-test.false c.results.invariant.0
