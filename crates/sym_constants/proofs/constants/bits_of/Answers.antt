use Rattle.sym_constants.proofs.Bits.{bits_first, bits_more, bits_all}
use Rattle.sym_constants.proofs.constants.bits_of.Goals as goal

pub bits-init : goal.bits-init
bits-init c = bits_first _ _ _ c.new-bits.ensures.items

pub bits-preserved : goal.bits-preserved
bits-preserved c =
    let more = bits_more _ _ _ _ _ c.bits-test.true c.bits.invariant in
    rw (c.in_ok-push.ensures, c.constant.ensures) more

pub returns : goal.returns
returns c = bits_all _ _ _ _ _ c.bits-test.false c.bits.invariant
