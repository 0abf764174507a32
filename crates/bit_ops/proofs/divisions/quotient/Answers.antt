use Rattle.std.proofs.Common.{◌≡◌, ◌∙◌, ◌-◌, ◌∷◌, false, length, get_or, replicate, sym, ap, subst, arith}
use Rattle.aig_build.specs.Circuits.{constant}
use Rattle.aig_build.proofs.Nodes.{Grows-length}
use Rattle.bit_words.specs.Words.{AreThere}
use Rattle.bit_words.proofs.RippleCarry.{AreThere-at, AreThere-later}
use Rattle.bit_ops.specs.Built.{place_built}
use Rattle.bit_ops.specs.Dividing.{IsDividing}
use Rattle.bit_ops.proofs.DividingSteps.{dividing_none, dividing_more, dividing_all}
use Rattle.bit_ops.proofs.DivisionValues.{quotient_numbers}
use Rattle.bit_ops.proofs.divisions.quotient.Goals as goal

pub loop-done-init : goal.loop-done-init
loop-done-init c =
    subst (λ quotient. IsDividing c.args.circuit.now c.args.circuit.now c.args.a.now c.args.divisor.now quotient c.in_ok-rest.rest.items 0) (sym c.new-quotient.ensures.items)
    (dividing_none c.args.circuit.now c.args.a.now c.args.divisor.now c.in_ok-rest.rest.items c.nodes-count.ensures.circuit (c.in_ok-rest.ensures ∙ ap (replicate (length c.args.divisor.now)) c.constant.ensures))

pub divide_place-requires : goal.divide_place-requires
divide_place-requires c =
    let i = c.loop-done.invariant in
    let some = c.loop-done-test.true in
    let there = AreThere-at _ c.args.a.now (length c.args.a.now - 1 - c.loop-done.done) (constant false) c.requires.a_is_there (omega arith) in
    record {
      lowest_is_there = omega (arith, there, Grows-length _ _ i.grows);
      rest_is_there = subst (AreThere c.loop-done.circuit) (sym c.deref.ensures.value) i.rest_there;
      divisor_is_there = AreThere-later _ _ c.args.divisor.now i.grows c.requires.divisor_is_there;
      same_width = ap length c.deref.ensures.value ∙ i.wide;
    }

pub loop-done-preserved : goal.loop-done-preserved
loop-done-preserved c =
    let f = c.in_ok-fits.ensures in
    dividing_more _ _ c.args.a.now c.args.divisor.now _ _ c.loop-done.done c.loop-done.invariant (constant false) (record { nodes = c.divide_place.new.circuit; fits = c.in_ok-fits.fits; rest = c.in_ok-fits.left.items }) _ c.loop-done-test.true
    ((λ i. place_built c.loop-done.circuit (get_or c.args.a.now (length c.args.a.now - 1 - c.loop-done.done) (constant false)) (sym c.deref.ensures.value i) c.args.divisor.now) ∙ f.built)
    f.grows f.fits_there f.rest_there f.width (c.in_ok-quotient.ensures ∙ ap (λ xs. c.in_ok-fits.fits ∷ xs) c.deref-in-loop-done.ensures.value)

pub returns : goal.returns
returns c =
    let i = c.loop-done.invariant in
    let built = dividing_all _ _ _ _ _ _ _ i c.loop-done-test.false in
    let all = c.loop-done-test.false in
    let most = c.loop-done.auto.done-end in
    let numbers = quotient_numbers c.args.circuit.now c.loop-done.circuit c.args.a.now c.args.divisor.now c.loop-done.quotient.items c.loop-done.rest.items c.nodes-count.ensures.circuit c.requires.a_is_there c.requires.divisor_is_there built in
    record {
      built = built;
      quotient_value = λ inputs some. (numbers inputs some).0;
      remainder_value = λ inputs some. (numbers inputs some).1;
      quotient_width = i.long ∙ (let e : c.loop-done.done ≡ length c.args.a.now = omega arith in e);
      remainder_width = i.wide;
      quotient_there = i.quotient_there;
      remainder_there = i.rest_there;
      grows = i.grows;
    }
