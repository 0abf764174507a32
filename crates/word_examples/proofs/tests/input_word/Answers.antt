use Rattle.std.proofs.Common.{◌∷◌, [], length, sym, ap, subst, arith, length-append}
use Rattle.aig_build.proofs.Nodes.{Grows-trans}
use Rattle.bit_words.specs.Words.{AreThere}
use Rattle.bit_words.proofs.LessValues.{AreThere-push}
use Rattle.bit_words.proofs.RippleCarry.{AreThere-later}
use Rattle.word_examples.proofs.tests.input_word.Goals as goal

pub loop-at-preserved : goal.loop-at-preserved
loop-at-preserved c =
    let i = c.loop-at.invariant in
    let g = c.in_ok-lit.ensures.grows in
    let long = i.1 in
    let one = length-append c.loop-at.bits.items (c.in_ok-lit.lit ∷ []) in
    let pushed = ap length c.in_ok-push.ensures in (
      subst (AreThere c.fresh.new.circuit) (sym c.in_ok-push.ensures) (AreThere-push _ _ c.in_ok-lit.lit (AreThere-later _ _ c.loop-at.bits.items g i.0) c.in_ok-lit.ensures.there),
      omega arith,
      Grows-trans _ _ _ i.2 g,
    )
