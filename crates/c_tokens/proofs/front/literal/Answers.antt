use Rattle.std.proofs.Common.{◌≡◌, ◌≤◌, ◌+◌, ◌-◌, false, length, take, drop, sym, ap, ◌∙◌, arith}
use Rattle.std.specs.List.{prefix_len}
use Rattle.std.proofs.lemmas.List.{take_rest}
use Rattle.c_tokens.specs.Bytes.{is_text_byte}
use Rattle.c_tokens.specs.Quotes.{to_quote}
use Rattle.c_tokens.proofs.QuotedFronts.{literal_found, no_closing_double_quote, bad_literal}
use Rattle.c_tokens.proofs.front.literal.Goals as goal

pub returns-in_default-clause-none : goal.returns-in_default-clause-none
returns-in_default-clause-none c =
    no_closing_double_quote c.args.text.now c.requires.some c.requires.quote (sym (ap (to_quote 34 false) (take_rest c.args.text.now 1)) ∙ sym c.to_quote.ensures.found ∙ c.in_default.is)

pub returns-then-good-length-clause-none : goal.returns-then-good-length-clause-none
returns-then-good-length-clause-none c =
    let text = c.args.text.now in
    let bounds = c.in-Some.ensures in
    let long = ap length (take_rest text 1) in
    let n : c.in-Some.length + 1 - 1 ≡ c.in-Some.length = omega arith in
    bad_literal text c.in-Some.length c.text_length-good.result c.requires.some c.requires.quote
    (sym (ap (to_quote 34 false) (take_rest text 1)) ∙ sym c.to_quote.ensures.found ∙ c.in-Some.is) (omega (arith, long, bounds.within))
    (c.text_length-good.ensures.count ∙ ap (λ k. prefix_len is_text_byte (take k (drop 1 text))) n) c.if-good-length.true

pub returns-clause-front : goal.returns-clause-front
returns-clause-front c =
    let text = c.args.text.now in
    let bounds = c.in-Some.ensures in
    let long = ap length (take_rest text 1) in
    let n : c.in-Some.length + 1 - 1 ≡ c.in-Some.length = omega arith in
    literal_found text c.in-Some.length c.text_length-good.result c.requires.some c.requires.quote
    (sym (ap (to_quote 34 false) (take_rest text 1)) ∙ sym c.to_quote.ensures.found ∙ c.in-Some.is) (omega (arith, long, bounds.within))
    (c.text_length-good.ensures.count ∙ ap (λ k. prefix_len is_text_byte (take k (drop 1 text))) n) c.if-good-length.false
