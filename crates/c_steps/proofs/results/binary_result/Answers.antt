use Rattle.std.proofs.Common.{Ok, not, neg_ℤ, sym, ap, ◌∙◌}
use Rattle.c_meaning.specs.Stores.{moved}
use Rattle.c_meaning.specs.Expressions.{truth_value}
use Rattle.c_tasks.specs.Tasks.{binary_result}
use Rattle.c_steps.proofs.SmallNumbers.{small_read, negated_fits, negated_read}
use Rattle.c_steps.proofs.results.binary_result.Goals as goal

pub returns-in_ok-computed-in-Numbers : goal.returns-in_ok-computed-in-Numbers
returns-in_ok-computed-in-Numbers c =
    c.in_ok-computed-in-Numbers.ensures ∙ sym (ap (λ op. binary_result c.args.layouts.now op c.args.v c.args.w) c.in-Numbers.is)

pub returns-in-SamePointer : goal.returns-in-SamePointer
returns-in-SamePointer c =
    ap Ok (c.truth_value.ensures ∙ ap truth_value c.same_pointer.ensures) ∙ sym (ap (λ op. binary_result c.args.layouts.now op c.args.v c.args.w) c.in-SamePointer.is)

pub returns-in-OtherPointer : goal.returns-in-OtherPointer
returns-in-OtherPointer c =
    ap Ok (c.truth_value-in-OtherPointer.ensures ∙ ap (λ b. truth_value (not b)) c.same_pointer-in-OtherPointer.ensures) ∙ sym (ap (λ op. binary_result c.args.layouts.now op c.args.v c.args.w) c.in-OtherPointer.is)

pub returns-in-Forward : goal.returns-in-Forward
returns-in-Forward c =
    c.moved.ensures ∙ ap (moved c.args.layouts.now c.args.v) (small_read c.times.result c.times.ensures.small ∙ c.times.ensures.value) ∙ sym (ap (λ op. binary_result c.args.layouts.now op c.args.v c.args.w) c.in-Forward.is)

pub returns-in-ForwardFrom : goal.returns-in-ForwardFrom
returns-in-ForwardFrom c =
    c.moved-in-ForwardFrom.ensures ∙ ap (moved c.args.layouts.now c.args.w) (small_read c.times-in-ForwardFrom.result c.times-in-ForwardFrom.ensures.small ∙ c.times-in-ForwardFrom.ensures.value) ∙ sym (ap (λ op. binary_result c.args.layouts.now op c.args.v c.args.w) c.in-ForwardFrom.is)

pub overflow_sub-times : goal.overflow_sub-times
overflow_sub-times c =
    negated_fits c.times-in-Backward.result c.times-in-Backward.ensures.small

pub returns-in-Backward : goal.returns-in-Backward
returns-in-Backward c =
    c.moved-in-Backward.ensures ∙ ap (moved c.args.layouts.now c.args.v) (negated_read c.times-in-Backward.result c.times-in-Backward.ensures.small ∙ ap neg_ℤ c.times-in-Backward.ensures.value) ∙ sym (ap (λ op. binary_result c.args.layouts.now op c.args.v c.args.w) c.in-Backward.is)

pub returns-in_ok-computed-in-Update : goal.returns-in_ok-computed-in-Update
returns-in_ok-computed-in-Update c =
    c.in_ok-computed-in-Update.ensures ∙ sym (ap (λ op. binary_result c.args.layouts.now op c.args.v c.args.w) c.in-Update.is)
