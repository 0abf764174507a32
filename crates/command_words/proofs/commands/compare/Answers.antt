use Rattle.std.proofs.Common.{List, ℕ, [], ◌∷◌, sym, ◌∙◌, ap, subst}
use Rattle.std.specs.Prelude.{map}
use Rattle.std.specs.String.{string_bytes}
use Rattle.command_words.specs.declared.lines.Setting.{Setting as Set}
use Rattle.command_words.specs.declared.options.Flag.TheVariants.{Map}
use Rattle.command_words.specs.declared.options.Verb.TheVariants.{Compare}
use Rattle.command_words.specs.Commands.{texts, StandsOnce}
use Rattle.command_words.specs.Scan.{names_in, setting_of, settings_in}
use Rattle.command_words.specs.Spellings.{value_in}
use Rattle.command_words.proofs.CommandLemmas.{not_read, says_line, this_line, is_comparison, comparison_texts, no_more_names, more_names}
use Rattle.command_words.proofs.commands.compare.Goals as goal

pub returns-in-None-clause-none : goal.returns-in-None-clause-none
returns-in-None-clause-none c = not_read Compare (map string_bytes c.args.words.now) c.in_ok-line.field-0 c.in_ok-line.ensures c.in-None.is

pub returns-in-None-once-clause-none : goal.returns-in-None-once-clause-none
returns-in-None-once-clause-none c = λ command is.
    let fits = this_line Compare (map string_bytes c.args.words.now) c.in_ok-line.field-0 c.in-Some.line c.in_ok-line.ensures c.in-Some.is command is in
    c.in-None-once.ensures.none fits.2 (subst (λ (s : List Set). StandsOnce Map (map setting_of s) fits.2) (sym c.as_slice.ensures.value) fits.4)

pub returns-in-None-first_two-clause-none : goal.returns-in-None-first_two-clause-none
returns-in-None-first_two-clause-none c = λ command is.
    let fits = this_line Compare (map string_bytes c.args.words.now) c.in_ok-line.field-0 c.in-Some.line c.in_ok-line.ensures c.in-Some.is command is in
    c.in-None-first_two.ensures.none fits.0 fits.1 [] (ap texts c.as_slice-2.ensures.value ∙ fits.3)

pub returns-then-not-is_empty-clause-none : goal.returns-then-not-is_empty-clause-none
returns-then-not-is_empty-clause-none c = λ command is.
    let fits = this_line Compare (map string_bytes c.args.words.now) c.in_ok-line.field-0 c.in-Some.line c.in_ok-line.ensures c.in-Some.is command is in
    let names = c.in-Some-first_two.names in
    more_names names.rest.now names.first.now names.second.now fits.0 fits.1 (sym c.is_empty.ensures ∙ c.if-not-is_empty.true)
    (sym c.in-Some-first_two.ensures.some ∙ ap texts c.as_slice-2.ensures.value ∙ fits.3)

pub returns-clause-command : goal.returns-clause-command
returns-clause-command c =
    let names = c.in-Some-first_two.names in
    let line = c.in-Some.line in
    let words = map string_bytes c.args.words.now in
    is_comparison words (names_in line) (settings_in line) names.first.now names.second.now (value_in c.in-Some-once.map) (says_line Compare words c.in_ok-line.field-0 line c.in_ok-line.ensures c.in-Some.is)
    (ap texts (sym c.as_slice-2.ensures.value) ∙ c.in-Some-first_two.ensures.some ∙ ap (λ (l : List (List ℕ)). names.first.now ∷ names.second.now ∷ l) (no_more_names names.rest.now (sym c.is_empty.ensures ∙ c.if-not-is_empty.false)))
    (subst (λ (s : List Set). StandsOnce Map (map setting_of s) (value_in c.in-Some-once.map)) c.as_slice.ensures.value c.in-Some-once.ensures.some)

pub returns-clause-texts : goal.returns-clause-texts
returns-clause-texts c =
    let names = c.in-Some-first_two.names in
    let line = c.in-Some.line in
    let words = map string_bytes c.args.words.now in
    comparison_texts words (names_in line) (settings_in line) names.first.now names.second.now (value_in c.in-Some-once.map) (says_line Compare words c.in_ok-line.field-0 line c.in_ok-line.ensures c.in-Some.is)
    (ap texts (sym c.as_slice-2.ensures.value) ∙ c.in-Some-first_two.ensures.some ∙ ap (λ (l : List (List ℕ)). names.first.now ∷ names.second.now ∷ l) (no_more_names names.rest.now (sym c.is_empty.ensures ∙ c.if-not-is_empty.false)))
    (subst (λ (s : List Set). StandsOnce Map (map setting_of s) (value_in c.in-Some-once.map)) c.as_slice.ensures.value c.in-Some-once.ensures.some)
