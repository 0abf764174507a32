-- What the words ask for, by what was read of them.
use Rattle.std.proofs.Common.{◌≡◌, ℕ, true, List, Option, Some, None, ◌∙◌, ap, subst}
use Rattle.std.specs.Prelude.{IfSome, IfNone, ◌&&◌}
use Rattle.std.specs.List.{list_all}
use Rattle.command_words.specs.declared.commands.Command.{Command}
use Rattle.command_words.specs.declared.commands.Command.TheVariants as C
use Rattle.command_words.specs.declared.commands.Comparison.{Comparison}
use Rattle.command_words.specs.declared.commands.FunctionRun.{FunctionRun}
use Rattle.command_words.specs.Commands.{Asked, comparison, function_run, IsCommand, asked, are_texts, texts, is_text_if_there}
use Rattle.command_words.specs.Spellings.{value_in}
use Rattle.command_words.specs.Texts.{is_text}
use Rattle.rvt_run.specs.Answer.{name_or_none}
use Rattle.rvt_run.specs.Texts.{HasNoLineEnd}
use Rattle.rvt_run.proofs.Shaped.{and_left, and_right, text_none}

-- what is known of a command that was read is known of this one
known : (P : Command → Type 0) (o : Option Command) (command : Command) → IfSome o P → o ≡ Some command → P command
known P o command is some = subst (λ (o : Option Command). IfSome o P) some is

module _ (words : List (List ℕ)) (o : Option Command) where
  pub is_compare : (read : Command) (command : Comparison) → IfSome o (λ c. IsCommand words (asked c)) → o ≡ Some read → read ≡ C.Compare command → IsCommand words (comparison command.old_name.now command.new_name.now (value_in command.map))
  is_compare read command is some which = known (λ c. IsCommand words (asked c)) o (C.Compare command) is (some ∙ ap Some which)

  pub is_run : (read : Command) (command : FunctionRun) → IfSome o (λ c. IsCommand words (asked c)) → o ≡ Some read → read ≡ C.Run command
      → IsCommand words (function_run command.file.now command.function.now (texts command.arguments.items) command.steps)
  is_run read command is some which = known (λ c. IsCommand words (asked c)) o (C.Run command) is (some ∙ ap Some which)

  compare_texts : (read : Command) (command : Comparison) → IfSome o (λ c. are_texts (asked c) ≡ true) → o ≡ Some read → read ≡ C.Compare command → (is_text command.old_name.now && is_text command.new_name.now && is_text_if_there (value_in command.map)) ≡ true
  compare_texts read command are some which = known (λ c. are_texts (asked c) ≡ true) o (C.Compare command) are (some ∙ ap Some which)

  pub old_none : (read : Command) (command : Comparison) → IfSome o (λ c. are_texts (asked c) ≡ true) → o ≡ Some read → read ≡ C.Compare command → HasNoLineEnd command.old_name.now
  old_none read command are some which = text_none command.old_name.now (and_left _ (is_text command.new_name.now) (and_left _ (is_text_if_there (value_in command.map)) (compare_texts read command are some which)))

  pub new_none : (read : Command) (command : Comparison) → IfSome o (λ c. are_texts (asked c) ≡ true) → o ≡ Some read → read ≡ C.Compare command → HasNoLineEnd command.new_name.now
  new_none read command are some which = text_none command.new_name.now (and_right (is_text command.old_name.now) _ (and_left _ (is_text_if_there (value_in command.map)) (compare_texts read command are some which)))

  pub map_none : (read : Command) (command : Comparison) → IfSome o (λ c. are_texts (asked c) ≡ true) → o ≡ Some read → read ≡ C.Compare command → HasNoLineEnd (name_or_none (value_in command.map))
  map_none read command are some which = by (value_in command.map) (and_right (is_text command.old_name.now && is_text command.new_name.now) _ (compare_texts read command are some which))
    where
      by : (map_name : Option (List ℕ)) → is_text_if_there map_name ≡ true → HasNoLineEnd (name_or_none map_name)
      by None is = tt
      by (Some name) is = text_none name is

  run_texts : (read : Command) (command : FunctionRun) → IfSome o (λ c. are_texts (asked c) ≡ true) → o ≡ Some read → read ≡ C.Run command
      → (is_text command.file.now && is_text command.function.now && list_all is_text (texts command.arguments.items)) ≡ true
  run_texts read command are some which = known (λ c. are_texts (asked c) ≡ true) o (C.Run command) are (some ∙ ap Some which)

  pub file_none : (read : Command) (command : FunctionRun) → IfSome o (λ c. are_texts (asked c) ≡ true) → o ≡ Some read → read ≡ C.Run command → HasNoLineEnd command.file.now
  file_none read command are some which =
      text_none command.file.now (and_left _ (is_text command.function.now) (and_left _ (list_all is_text (texts command.arguments.items)) (run_texts read command are some which)))

  pub function_none : (read : Command) (command : FunctionRun) → IfSome o (λ c. are_texts (asked c) ≡ true) → o ≡ Some read → read ≡ C.Run command → HasNoLineEnd command.function.now
  function_none read command are some which =
      text_none command.function.now (and_right (is_text command.file.now) _ (and_left _ (list_all is_text (texts command.arguments.items)) (run_texts read command are some which)))

-- words of which nothing was read are no command
pub no_command_read : (words : List (List ℕ)) (o : Option Command) → IfNone o ((command : Asked) → IsCommand words command → ⊥) → o ≡ None → (command : Asked) → IsCommand words command → ⊥
no_command_read words o none is = subst (λ (o : Option Command). IfNone o ((command : Asked) → IsCommand words command → ⊥)) is none
