use Rattle.std.proofs.Common.{◌≡◌, ap, sym, ◌∙◌, of_z}
use mir.Syntax.{w128}
use Rattle.std.specs.Prelude.{ℤ}
use Rattle.rvt_num.specs.Number.{Number}
use Rattle.rvt_num.specs.Wrapping.{wrap}
use Rattle.call_arguments.proofs.ValueLemmas.{is_number, no_number}
use Rattle.call_arguments.proofs.KindLemmas.{not_large}
use Rattle.call_arguments.proofs.WordLemmas.{read_back, same_read, value_near}
use Rattle.call_arguments.proofs.numbers.number_argument.Goals as goal

pub returns-in-None-clause-none : goal.returns-in-None-clause-none
returns-in-None-clause-none c = λ value is. not_large c.args.kind is.whole is.in_range (c.in-None.ensures.none is.whole is.written)

pub returns-then-value-whole-clause-none : goal.returns-then-value-whole-clause-none
returns-then-value-whole-clause-none c =
    no_number c.args.kind c.args.word.now c.in-Some.whole c.in-Some.ensures.some
    (λ same. c.if-value-whole.true
    (ap (of_z w128) (c.value.ensures.value ∙ ap (λ (n : Number). n.value) c.wrapped-number.ensures ∙ ap (λ (z : ℤ). wrap c.args.kind z) (read_back c.in-Some.whole c.in-Some.ensures.near) ∙ same)))

pub returns-clause-some : goal.returns-clause-some
returns-clause-some c =
    is_number c.args.kind c.args.word.now c.in-Some.whole _ c.wrapped-number.result c.value.result c.in-Some.ensures.some c.wrapped-number.ensures c.value.ensures.value c.value.ensures.in_range
    (same_read c.value.result c.in-Some.whole (value_near c.value.result c.value.ensures.low c.value.ensures.high) c.in-Some.ensures.near c.if-value-whole.false)
