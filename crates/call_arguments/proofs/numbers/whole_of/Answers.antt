use Rattle.std.proofs.Common.{◌≡◌, Some, None, lit<, sym, ◌∙◌, subst}
use Rattle.std.specs.Prelude.{ℤ}
use Rattle.std.proofs.lemmas.Str.Pattern.{strip_prefix_char}
use Rattle.call_arguments.specs.Texts.{IsNear, IsWhole, unsigned, negated}
use Rattle.call_arguments.proofs.WordLemmas.{large_negated, large_unsigned, read_back}
use Rattle.call_arguments.proofs.numbers.whole_of.Goals as goal

pub returns-in-Some-number_of-clause-some : goal.returns-in-Some-number_of-clause-some
returns-in-Some-number_of-clause-some c =
    subst (IsWhole c.args.word.now) (sym (read_back c.negated.result c.negated.ensures.near ∙ c.negated.ensures.value))
    (negated c.in-Some.digits.now c.in-Some-number_of.n (strip_prefix_char 45 c.args.word.now (Some c.in-Some.digits) c.in-Some.ensures.cases (lit< tt)) c.in-Some-number_of.ensures.some)

pub returns-in-Some-number_of-clause-near : goal.returns-in-Some-number_of-clause-near
returns-in-Some-number_of-clause-near c = subst IsNear (sym (read_back c.negated.result c.negated.ensures.near)) c.negated.ensures.near

pub returns-in-Some-number_of-2-clause-some : goal.returns-in-Some-number_of-2-clause-some
returns-in-Some-number_of-2-clause-some c =
    subst (IsWhole c.args.word.now) (sym (read_back c.signed.result c.signed.ensures.near ∙ c.signed.ensures.value)) (unsigned c.in-Some-number_of-2.n c.in-Some-number_of-2.ensures.some)

pub returns-in-Some-number_of-2-clause-near : goal.returns-in-Some-number_of-2-clause-near
returns-in-Some-number_of-2-clause-near c = subst IsNear (sym (read_back c.signed.result c.signed.ensures.near)) c.signed.ensures.near

pub returns-in-None-number_of-clause-none : goal.returns-in-None-number_of-clause-none
returns-in-None-number_of-clause-none c =
    large_negated c.args.word.now c.in-Some.digits.now (strip_prefix_char 45 c.args.word.now (Some c.in-Some.digits) c.in-Some.ensures.cases (lit< tt)) c.in-None-number_of.ensures.none

pub returns-in-None-number_of-2-clause-none : goal.returns-in-None-number_of-2-clause-none
returns-in-None-number_of-2-clause-none c = large_unsigned c.args.word.now (strip_prefix_char 45 c.args.word.now None c.in-None.ensures.cases (lit< tt)) c.in-None-number_of-2.ensures.none
