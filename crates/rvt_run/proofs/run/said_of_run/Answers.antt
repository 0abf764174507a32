use Rattle.std.proofs.Common.{◌+◌, ◌^◌, ◌<◌, ◌++◌, ℕ, length, sym, ◌∙◌, ap, subst, arith}
use Rattle.std.specs.Prelude.{codes}
use Rattle.std.specs.Fmt.{decimal}
use Rattle.command_words.specs.Commands.{texts}
use Rattle.rvt_run.specs.Runs.{IsRunAnswer}
use Rattle.rvt_run.specs.Runs as R
use Rattle.rvt_run.proofs.RunSaid.{says_at, stopped_at, first_bad_below, seen_length, for_values, for_bad}
use Rattle.rvt_run.proofs.run.said_of_run.Goals as goal

pub returns-in-None-clause-said : goal.returns-in-None-clause-said
returns-in-None-clause-said c =
    let command = c.args.command.now in
    says_at c.no_function.result (IsRunAnswer c.args.program.now command.file.now command.function.now (texts command.arguments.items) command.steps) 3 (command.file.now ++ (codes ": no function " ++ command.function.now))
    c.no_function.ensures.status c.no_function.ensures.text (R.no_function c.in-None.ensures.none)

pub returns-then-words-len-clause-said : goal.returns-then-words-len-clause-said
returns-then-words-len-clause-said c =
    let command = c.args.command.now in
    let words = command.arguments.items in
    says_at c.other_number.result (IsRunAnswer c.args.program.now command.file.now command.function.now (texts words) command.steps) 3 (codes "wanted " ++ (decimal c.len-then-words-len.result ++ codes " arguments"))
    c.other_number.ensures.status c.other_number.ensures.text
    (subst (λ (n : ℕ). IsRunAnswer c.args.program.now command.file.now command.function.now (texts words) command.steps 3 (codes "wanted " ++ (decimal n ++ codes " arguments"))) (sym c.len-then-words-len.ensures)
    (R.other_number c.in-Some.found.0 c.in-Some.found.1.now c.in-Some.ensures.some
    (λ same. c.if-words-len.true (ap length c.as_slice-words.ensures.value ∙ sym (seen_length words) ∙ same ∙ sym c.len.ensures))))

pub bad_argument-requires : goal.bad_argument-requires
bad_argument-requires c =
    let bad = for_bad c.args.program.now c.in-Some.found.1.now.params c.as_slice.result.now c.args.command.now.arguments.items c.as_slice-words.result.now c.in_ok-values.field-0 c.in-Bad.before c.as_slice.ensures c.as_slice-words.ensures.value c.in_ok-values.ensures c.in-Bad.is in
    let below : c.in-Bad.before < length c.in-Some.found.1.now.params = first_bad_below c.args.program.now c.in-Some.found.1.now.params (texts c.args.command.now.arguments.items) c.in-Bad.before bad in
    let small : c.len.result < 2 ^ 64 = c.len.type_inv in
    omega (arith, below, small, c.len.ensures)

pub returns-in-Values-clause-said : goal.returns-in-Values-clause-said
returns-in-Values-clause-said c =
    let command = c.args.command.now in
    stopped_at c.stopped.result c.args.program.now command.file.now command.function.now (texts command.arguments.items) command.steps c.in-Some.found.0 c.in-Some.found.1.now c.in-Values.values.items c.in-Some.ensures.some
    (for_values c.args.program.now c.in-Some.found.1.now.params c.as_slice.result.now command.arguments.items c.as_slice-words.result.now c.in_ok-values.field-0 c.in-Values.values c.as_slice.ensures c.as_slice-words.ensures.value c.in_ok-values.ensures c.in-Values.is)
    c.stopped.ensures.stopped

pub returns-in-Bad-clause-said : goal.returns-in-Bad-clause-said
returns-in-Bad-clause-said c =
    let command = c.args.command.now in
    let words = command.arguments.items in
    let bad = for_bad c.args.program.now c.in-Some.found.1.now.params c.as_slice.result.now words c.as_slice-words.result.now c.in_ok-values.field-0 c.in-Bad.before c.as_slice.ensures c.as_slice-words.ensures.value c.in_ok-values.ensures c.in-Bad.is in
    says_at c.bad_argument.result (IsRunAnswer c.args.program.now command.file.now command.function.now (texts words) command.steps) 3 (codes "argument " ++ (decimal (c.in-Bad.before + 1) ++ codes ": not a value of its type"))
    c.bad_argument.ensures.status c.bad_argument.ensures.text
    (R.bad_argument c.in-Some.found.0 c.in-Some.found.1.now c.in-Bad.before c.in-Some.ensures.some (seen_length words ∙ sym (ap length c.as_slice-words.ensures.value) ∙ c.if-words-len.false ∙ c.len.ensures) bad)
