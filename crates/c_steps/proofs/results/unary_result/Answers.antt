use Rattle.std.proofs.Common.{rules, FitsSigned, Ok, not, sym, ap, ◌∙◌}
use Rattle.std.specs.Int.{w128}
use Rattle.rvt_num.specs.Operations.{unary_of, converted}
use Rattle.rvt_num.specs.declared.values.Value.TheVariants.{Num}
use Rattle.c_meaning.specs.Stores.{moved}
use Rattle.c_meaning.specs.Expressions.{truth_value}
use Rattle.c_tasks.specs.Tasks.{unary_result}
use Rattle.c_steps.proofs.SmallNumbers.{read_back}
use Rattle.c_steps.proofs.results.unary_result.Goals as goal

pub returns-in-Convert : goal.returns-in-Convert
returns-in-Convert c =
    ap (λ n. Ok (Num n)) (c.convert.ensures ∙ ap (converted c.in-Convert.kind) c.number_of.ensures) ∙ sym (ap (λ op. unary_result c.args.layouts.now op c.args.v) c.in-Convert.is)

pub returns-in-Number : goal.returns-in-Number
returns-in-Number c =
    ap (λ n. Ok (Num n)) (c.unary_number.ensures ∙ ap (unary_of c.in-Number.op) c.number_of-in-Number.ensures) ∙ sym (ap (λ op. unary_result c.args.layouts.now op c.args.v) c.in-Number.is)

pub returns-in-Not : goal.returns-in-Not
returns-in-Not c =
    ap Ok (c.truth_value.ensures ∙ ap (λ b. truth_value (not b)) c.holds.ensures) ∙ sym (ap (λ op. unary_result c.args.layouts.now op c.args.v) c.in-Not.is)

pub returns-in-Truth : goal.returns-in-Truth
returns-in-Truth c =
    ap Ok (c.truth_value-in-Truth.ensures ∙ ap truth_value c.holds-in-Truth.ensures) ∙ sym (ap (λ op. unary_result c.args.layouts.now op c.args.v) c.in-Truth.is)

pub returns-in_ok-computed-in-Bump : goal.returns-in_ok-computed-in-Bump
returns-in_ok-computed-in-Bump c =
    c.in_ok-computed-in-Bump.ensures ∙ sym (ap (λ op. unary_result c.args.layouts.now op c.args.v) c.in-Bump.is)

pub returns-in-BumpPointer : goal.returns-in-BumpPointer
returns-in-BumpPointer c =
    let fits : FitsSigned w128 c.direction.result = search rules in
    c.moved.ensures ∙ ap (moved c.args.layouts.now c.args.v) (read_back c.direction.result fits ∙ c.direction.ensures) ∙ sym (ap (λ op. unary_result c.args.layouts.now op c.args.v) c.in-BumpPointer.is)
