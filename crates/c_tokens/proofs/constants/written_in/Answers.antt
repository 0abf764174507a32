use Rattle.std.proofs.Common.{ap, sym, ◌∙◌, arith, Some}
use Rattle.c_tokens.specs.Constants.{first_holding}
use Rattle.c_tokens.proofs.ConstantLemmas.{written_front}
use Rattle.c_tokens.proofs.constants.written_in.Goals as goal

pub returns-in-Some-first_holding : goal.returns-in-Some-first_holding
returns-in-Some-first_holding c =
    let first = ap (λ kinds. first_holding kinds c.in-Some-digits_value.value) (sym c.kinds_for.ensures) ∙ sym c.first_holding.ensures ∙ c.in-Some-first_holding.is in
    ap Some c.number.ensures
    ∙ sym (written_front c.args.base c.args.text.now c.digits_length-length.result c.in-Some.suffix c.in-Some-digits_value.value c.in-Some-first_holding.kind
    c.digits_length-length.ensures.count (omega (arith, c.if-length-eq0.false)) c.digits_length-length.ensures.within
    (sym c.suffix_of.ensures ∙ c.in-Some.is) (sym c.digits_value.ensures ∙ c.in-Some-digits_value.is) first)
