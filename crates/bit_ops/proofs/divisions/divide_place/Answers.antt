use Rattle.std.proofs.Common.{◌∙◌, [], ◌∷◌, ◌++◌, true, length, take, sym, subst}
use Rattle.aig_build.specs.Circuits.{constant}
use Rattle.bit_words.specs.declared.cells.Cell.TheVariants.{Sum, Choice}
use Rattle.bit_words.specs.Built.{ripple_built}
use Rattle.bit_words.specs.Words.{AreThere}
use Rattle.bit_words.proofs.ConvertValues.{AreThere-append}
use Rattle.bit_words.proofs.Multiplication.{AreThere-take}
use Rattle.bit_words.proofs.PlacedValues.{AreThere-flipped}
use Rattle.bit_words.proofs.RippleCarry.{AreThere-later}
use Rattle.bit_words.proofs.WordValues.{some_nodes}
use Rattle.bit_ops.proofs.DividingSteps.{place_from}
use Rattle.bit_ops.proofs.divisions.divide_place.Goals as goal

pub ripple-requires-clause-b_is_there : goal.ripple-requires-clause-b_is_there
ripple-requires-clause-b_is_there c =
    let taken =
    c.deref-3.ensures.value ∙ c.in_ok-taken.ensures ∙ (λ i. (c.deref.ensures.value ∙ c.in_ok-negative.ensures) i ++ c.constant.ensures i ∷ []) in
    subst (AreThere c.args.circuit.now) (sym taken) (AreThere-append _ _ (constant true ∷ []) (AreThere-flipped _ c.args.divisor.now c.requires.divisor_is_there) (some_nodes _ c.nodes-count.ensures.circuit, tt))

pub ripple-requires-2-clause-a_is_there : goal.ripple-requires-2-clause-a_is_there
ripple-requires-2-clause-a_is_there c = AreThere-take _ _ c.deref-4.result.now (subst (AreThere c.ripple.new.circuit) (sym c.deref-4.ensures.value) c.in_ok-less.ensures.bits_there)

pub ripple-requires-2-clause-b_is_there : goal.ripple-requires-2-clause-b_is_there
ripple-requires-2-clause-b_is_there c =
    AreThere-take _ _ c.deref-5.result.now
    (subst (AreThere c.ripple.new.circuit) (sym (c.deref-5.ensures.value ∙ c.in_ok-so_far.ensures)) (AreThere-later _ _ (c.args.lowest ∷ c.args.rest.now) c.in_ok-less.ensures.grows (c.requires.lowest_is_there, c.requires.rest_is_there)))

pub returns-clause-built : goal.returns-clause-built
returns-clause-built c =
    let taken = c.deref-3.ensures.value ∙ c.in_ok-taken.ensures ∙ (λ i. (c.deref.ensures.value ∙ c.in_ok-negative.ensures) i ++ c.constant.ensures i ∷ []) in
    let so_far = c.deref-2.ensures.value ∙ c.in_ok-so_far.ensures in
    let later = c.deref-5.ensures.value ∙ c.in_ok-so_far.ensures in
    place_from _ _ _ c.args.lowest c.args.rest.now c.args.divisor.now c.in_ok-less.less.items c.in_ok-left.left.items c.in_ok-less.fits _
    ((λ i. ripple_built c.args.circuit.now Sum (sym c.constant-2.ensures i) (sym so_far i) (sym taken i)) ∙ c.in_ok-less.ensures.built)
    ((λ i. ripple_built c.ripple.new.circuit Choice c.in_ok-less.fits (take (length c.args.divisor.now) (sym c.deref-4.ensures.value i)) (take (length c.args.divisor.now) (sym later i))) ∙ c.in_ok-left.ensures.built)
