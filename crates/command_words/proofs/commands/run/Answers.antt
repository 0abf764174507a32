use Rattle.std.proofs.Common.{◌≡◌, List, ℕ, Option, ◌∷◌, sym, ◌∙◌, ap, subst}
use Rattle.std.specs.Prelude.{map}
use Rattle.std.specs.String.{string_bytes}
use Rattle.command_words.specs.declared.lines.Setting.{Setting as Set}
use Rattle.command_words.specs.declared.options.Flag.TheVariants.{Steps}
use Rattle.command_words.specs.declared.options.Verb.TheVariants.{Run}
use Rattle.command_words.specs.Commands.{texts, StandsOnce}
use Rattle.command_words.specs.Numbers.{AreSteps}
use Rattle.command_words.specs.Scan.{names_in, setting_of, settings_in}
use Rattle.command_words.specs.Spellings.{value_in}
use Rattle.command_words.proofs.CommandLemmas.{not_read, says_line, this_line, one_value, is_run, run_texts}
use Rattle.command_words.proofs.commands.run.Goals as goal

pub returns-in-None-clause-none : goal.returns-in-None-clause-none
returns-in-None-clause-none c = not_read Run (map string_bytes c.args.words.now) c.in_ok-line.field-0 c.in_ok-line.ensures c.in-None.is

pub returns-in-None-once-clause-none : goal.returns-in-None-once-clause-none
returns-in-None-once-clause-none c = λ command is.
    let fits = this_line Run (map string_bytes c.args.words.now) c.in_ok-line.field-0 c.in-Some.line c.in_ok-line.ensures c.in-Some.is command is in
    c.in-None-once.ensures.none fits.3 (subst (λ (s : List Set). StandsOnce Steps (map setting_of s) fits.3) (sym c.as_slice.ensures.value) fits.6)

pub returns-in-None-steps_of-clause-none : goal.returns-in-None-steps_of-clause-none
returns-in-None-steps_of-clause-none c = λ command is.
    let fits = this_line Run (map string_bytes c.args.words.now) c.in_ok-line.field-0 c.in-Some.line c.in_ok-line.ensures c.in-Some.is command is in
    let same : fits.3 ≡ value_in c.in-Some-once.value = one_value Steps (settings_in c.in-Some.line) (map setting_of c.as_slice.result.now) fits.3 (value_in c.in-Some-once.value) (ap (map setting_of) (sym c.as_slice.ensures.value)) fits.6 c.in-Some-once.ensures.some in
    c.in-None-steps_of.ensures.none fits.4 (subst (λ (v : Option (List ℕ)). AreSteps v fits.4) same fits.7)

pub returns-in-None-first_two-clause-none : goal.returns-in-None-first_two-clause-none
returns-in-None-first_two-clause-none c = λ command is.
    let fits = this_line Run (map string_bytes c.args.words.now) c.in_ok-line.field-0 c.in-Some.line c.in_ok-line.ensures c.in-Some.is command is in
    c.in-None-first_two.ensures.none fits.0 fits.1 fits.2 (ap texts c.as_slice-2.ensures.value ∙ fits.5)

pub returns-clause-command : goal.returns-clause-command
returns-clause-command c =
    let names = c.in-Some-first_two.names in
    let line = c.in-Some.line in
    let words = map string_bytes c.args.words.now in
    let arguments = c.in_ok-from_slice.field-0 in
    is_run words (names_in line) (settings_in line) names.first.now names.second.now (texts arguments.items) (value_in c.in-Some-once.value) c.in-Some-steps_of.steps
    (says_line Run words c.in_ok-line.field-0 line c.in_ok-line.ensures c.in-Some.is)
    (ap texts (sym c.as_slice-2.ensures.value) ∙ c.in-Some-first_two.ensures.some ∙ ap (λ (l : List (List ℕ)). names.first.now ∷ names.second.now ∷ l) (ap texts (sym c.in_ok-from_slice.ensures.items)))
    (subst (λ (s : List Set). StandsOnce Steps (map setting_of s) (value_in c.in-Some-once.value)) c.as_slice.ensures.value c.in-Some-once.ensures.some)
    c.in-Some-steps_of.ensures.some

pub returns-clause-texts : goal.returns-clause-texts
returns-clause-texts c =
    let names = c.in-Some-first_two.names in
    let line = c.in-Some.line in
    let words = map string_bytes c.args.words.now in
    let arguments = c.in_ok-from_slice.field-0 in
    run_texts words (names_in line) (settings_in line) names.first.now names.second.now (texts arguments.items)
    (says_line Run words c.in_ok-line.field-0 line c.in_ok-line.ensures c.in-Some.is)
    (ap texts (sym c.as_slice-2.ensures.value) ∙ c.in-Some-first_two.ensures.some ∙ ap (λ (l : List (List ℕ)). names.first.now ∷ names.second.now ∷ l) (ap texts (sym c.in_ok-from_slice.ensures.items)))
