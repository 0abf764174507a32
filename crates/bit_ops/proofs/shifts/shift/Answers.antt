use Rattle.std.proofs.Common.{◌∙◌, ◌<◌, length, get_or, arith, false, sym, ap, subst}
use Rattle.aig_build.specs.Circuits.{constant}
use Rattle.aig_build.proofs.Nodes.{Grows-length}
use Rattle.bit_words.specs.Built.{ripple_built}
use Rattle.bit_ops.specs.Built.{moved_bits}
use Rattle.bit_words.specs.Words.{AreThere}
use Rattle.bit_words.specs.declared.cells.Cell.TheVariants.{Choice}
use Rattle.bit_words.proofs.RippleCarry.{AreThere-at}
use Rattle.bit_ops.proofs.ShiftingSteps.{AreThere-moved, moved_length, shifting_more, shifting_all, step_within}
use Rattle.bit_ops.proofs.shifts.shift.Goals as goal

pub moved-requires : goal.moved-requires
moved-requires c =
    let within = step_within _ _ _ _ _ _ _ _ _ c.loop-at.invariant c.loop-at-test.true c.requires.within in
    let e = ap length c.deref.ensures.value in
    omega arith

pub ripple-requires-clause-a_is_there : goal.ripple-requires-clause-a_is_there
ripple-requires-clause-a_is_there c =
    let fill : c.args.fill.node < length c.loop-at.circuit = (let h = c.requires.fill_is_there in omega (arith, Grows-length _ _ c.loop-at.invariant.grows)) in
    let other = c.deref-in-loop-at.ensures.value ∙ c.in_ok-other.ensures ∙ ap (moved_bits c.args.up c.args.fill c.loop-at.step) c.deref.ensures.value in
    subst (AreThere c.loop-at.circuit) (sym other) (AreThere-moved _ c.args.up c.args.fill c.loop-at.step _ fill c.loop-at.invariant.there)

pub ripple-requires-clause-carry_is_there : goal.ripple-requires-clause-carry_is_there
ripple-requires-clause-carry_is_there c =
    let there = AreThere-at _ _ c.loop-at.at (constant false) c.requires.count_is_there c.loop-at-test.true in
    omega (arith, there, Grows-length _ _ c.loop-at.invariant.grows)

pub ripple-requires-clause-same_width : goal.ripple-requires-clause-same_width
ripple-requires-clause-same_width c =
    let within = step_within _ _ _ _ _ _ _ _ _ c.loop-at.invariant c.loop-at-test.true c.requires.within in
    let other = c.deref-in-loop-at.ensures.value ∙ c.in_ok-other.ensures ∙ ap (moved_bits c.args.up c.args.fill c.loop-at.step) c.deref.ensures.value in
    ap length other ∙ moved_length c.args.up c.args.fill c.loop-at.step _ within ∙ sym (ap length c.deref-in-loop-at-2.ensures.value)

pub loop-at-preserved : goal.loop-at-preserved
loop-at-preserved c =
    let f = c.in_ok-next.ensures in
    let within = step_within _ _ _ _ _ _ _ _ _ c.loop-at.invariant c.loop-at-test.true c.requires.within in
    let other = c.deref-in-loop-at.ensures.value ∙ c.in_ok-other.ensures ∙ ap (moved_bits c.args.up c.args.fill c.loop-at.step) c.deref.ensures.value in
    shifting_more _ _ _ _ _ _ _ _ _ c.loop-at.invariant (constant false) _ c.loop-at-test.true
    ((λ i. ripple_built c.loop-at.circuit Choice (get_or c.args.count.now c.loop-at.at (constant false)) (sym other i) (sym c.deref-in-loop-at-2.ensures.value i)) ∙ f.built) f.grows f.bits_there
    (f.width ∙ ap length other ∙ moved_length c.args.up c.args.fill c.loop-at.step _ within)

pub returns-clause-built : goal.returns-clause-built
returns-clause-built c = shifting_all _ _ _ _ _ _ _ _ _ c.loop-at.invariant c.loop-at-test.false
