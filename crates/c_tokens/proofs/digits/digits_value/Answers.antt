use Rattle.std.proofs.Common.{◌+◌, ◌*◌, ap, ◌∙◌, arith}
use Rattle.c_tokens.proofs.DigitLemmas.{too_large}
use Rattle.c_tokens.proofs.digits.digits_value.Goals as goal

pub returns-then-next-gt18446744073709551615 : goal.returns-then-next-gt18446744073709551615
returns-then-next-gt18446744073709551615 c =
    let value = c.from.ensures in
    let radix = c.from-in-digits.ensures ∙ c.radix.ensures in
    let digit = c.from-in-digits-2.ensures ∙ c.digit_value.ensures in
    let product = ap (λ v. v * c.from-in-digits.result) value ∙ ap (λ r. c.digits.value * r) radix in
    too_large c.args.base c.args.text.now c.digits.byte-index c.digits.value (c.from.result * c.from-in-digits.result + c.from-in-digits-2.result) c.digits-test.true
    (omega (arith, product, digit)) (omega (arith, c.if-next-gt18446744073709551615.true)) c.digits.invariant.0
