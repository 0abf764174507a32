use Rattle.std.proofs.Common.{List, ℕ, sym, ◌∙◌, subst}
use Rattle.std.specs.Prelude.{IfOk, IfSome, IfNone}
use Rattle.std.specs.String.{string_bytes}
use Rattle.std.proofs.lemmas.Slice.Eq.{bytes_eq-Decides}
use Rattle.command_words.specs.declared.options.Verb.TheVariants.{Compare, Run}
use Rattle.command_words.specs.Commands.{Asked, IsCommand, asked}
use Rattle.command_words.specs.Options.{word_of}
use Rattle.command_words.proofs.CommandLemmas.{first_word_is}
use Rattle.command_words.proofs.commands.read_words.Goals as goal

pub returns-then-eq-clause-command : goal.returns-then-eq-clause-command
returns-then-eq-clause-command c =
    let are = first_word_is string_bytes c.args.words.now c.word-item.result (word_of Compare) c.in-len1-up.len_at_least c.word-item.is (sym c.as_str.ensures.value ∙ (bytes_eq-Decides _ _).0 (sym c.eq.ensures ∙ c.if-eq.true)) in
    subst (λ (ws : List (List ℕ)). IfOk c.compare.result (λ read. IfSome read (λ command. IsCommand ws (asked command)))) (sym are) c.compare.ensures.command

pub returns-then-eq-clause-none : goal.returns-then-eq-clause-none
returns-then-eq-clause-none c =
    let are = first_word_is string_bytes c.args.words.now c.word-item.result (word_of Compare) c.in-len1-up.len_at_least c.word-item.is (sym c.as_str.ensures.value ∙ (bytes_eq-Decides _ _).0 (sym c.eq.ensures ∙ c.if-eq.true)) in
    subst (λ (ws : List (List ℕ)). IfOk c.compare.result (λ read. IfNone read ((command : Asked) → IsCommand ws command → ⊥))) (sym are) c.compare.ensures.none

pub returns-then-eq-2-clause-command : goal.returns-then-eq-2-clause-command
returns-then-eq-2-clause-command c =
    let are = first_word_is string_bytes c.args.words.now c.word-item.result (word_of Run) c.in-len1-up.len_at_least c.word-item.is (sym c.as_str.ensures.value ∙ (bytes_eq-Decides _ _).0 (sym c.eq-2.ensures ∙ c.if-eq-2.true)) in
    subst (λ (ws : List (List ℕ)). IfOk c.run.result (λ read. IfSome read (λ command. IsCommand ws (asked command)))) (sym are) c.run.ensures.command

pub returns-then-eq-2-clause-none : goal.returns-then-eq-2-clause-none
returns-then-eq-2-clause-none c =
    let are = first_word_is string_bytes c.args.words.now c.word-item.result (word_of Run) c.in-len1-up.len_at_least c.word-item.is (sym c.as_str.ensures.value ∙ (bytes_eq-Decides _ _).0 (sym c.eq-2.ensures ∙ c.if-eq-2.true)) in
    subst (λ (ws : List (List ℕ)). IfOk c.run.result (λ read. IfNone read ((command : Asked) → IsCommand ws command → ⊥))) (sym are) c.run.ensures.none
