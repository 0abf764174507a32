use Rattle.std.proofs.Common.{sym, ◌∙◌, arith}
use Rattle.c_tokens.proofs.QuoteLemmas.{no_byte_other, byte_fits, is_some_length}
use Rattle.c_tokens.proofs.quotes.byte_value.Goals as goal

pub returns-then-digits_length-digits : goal.returns-then-digits_length-digits
returns-then-digits_length-digits c = sym (no_byte_other c.args.base c.args.digits.now (omega (arith, c.digits_length.ensures.count, c.if-digits_length-digits.true)))

pub returns-else-value-gt255 : goal.returns-else-value-gt255
returns-else-value-gt255 c =
    sym (byte_fits c.args.base c.args.digits.now c.in-Some.value (is_some_length _ (sym c.if-is_empty.false ∙ c.is_empty.ensures)) (omega (arith, c.digits_length.ensures.count, c.if-digits_length-digits.false))
    (sym c.digits_value.ensures ∙ c.in-Some.is) c.if-value-gt255.false)
