-- The commands.
use Rattle.std.specs.Prelude.{◌≡◌, ℕ, Bool, true, false, ◌&&◌, List, [], ◌∷◌, map, filter, Option, Some, None}
use Rattle.std.specs.Borrow.{Bor}
use Rattle.std.specs.List.{list_all}
use Rattle.std.specs.Option.{option_to_list}
use Rattle.command_words.specs.declared.commands.Command.{Command}
use Rattle.command_words.specs.declared.commands.Command.TheVariants as C
use Rattle.command_words.specs.declared.options.Flag.{Flag}
use Rattle.command_words.specs.declared.options.Flag.TheVariants.{Map, Steps}
use Rattle.command_words.specs.declared.options.Verb.TheVariants.{Compare, Run}
use Rattle.command_words.specs.Lines.{Setting, Says}
use Rattle.command_words.specs.Numbers.{AreSteps}
use Rattle.command_words.specs.Options.{word_of}
use Rattle.command_words.specs.Spellings.{value_in}
use Rattle.command_words.specs.Texts.{is_text}

-- what is asked for
pub data Asked : Type 0 where
  -- OLD, NEW, and the name of the map, if there is one
  comparison : List ℕ → List ℕ → Option (List ℕ) → Asked
  -- FILE, FUNCTION, each ARG, and the number of steps
  function_run : List ℕ → List ℕ → List (List ℕ) → ℕ → Asked

abbrev pub texts : List (Bor (List ℕ)) → List (List ℕ)
texts words = map (λ word. word.now) words

-- what a command asks for
abbrev pub asked : Command → Asked
asked (C.Compare command) = comparison command.old_name.now command.new_name.now (value_in command.map)
asked (C.Run command) = function_run command.file.now command.function.now (texts command.arguments.items) command.steps

abbrev pub same_flag : Flag → Flag → Bool
same_flag Map Map = true
same_flag Steps Steps = true
same_flag _ _ = false

-- the values that this option has
abbrev pub values_of : Flag → List Setting → List (List ℕ)
values_of flag settings = map (λ setting. setting.1) (filter (λ setting. same_flag setting.0 flag) settings)

-- the option stands once and has this value, or it doesn't stand
abbrev pub StandsOnce : Flag → List Setting → Option (List ℕ) → Type 0
StandsOnce flag settings value = values_of flag settings ≡ option_to_list value

-- the words are this command
pub data IsCommand (words : List (List ℕ)) : Asked → Type 0 where
  -- compare OLD NEW [--map F]
  compare : (rest : List (List ℕ)) (settings : List Setting) (old new : List ℕ) (map_name : Option (List ℕ))
      → words ≡ word_of Compare ∷ rest
      → Says Compare rest (old ∷ new ∷ []) settings
      → StandsOnce Map settings map_name
      → IsCommand words (comparison old new map_name)
  -- run FILE FUNCTION [ARG].. [--steps N]
  run : (rest arguments : List (List ℕ)) (settings : List Setting) (file function : List ℕ) (value : Option (List ℕ)) (steps : ℕ)
      → words ≡ word_of Run ∷ rest
      → Says Run rest (file ∷ function ∷ arguments) settings
      → StandsOnce Steps settings value
      → AreSteps value steps
      → IsCommand words (function_run file function arguments steps)

abbrev pub is_text_if_there : Option (List ℕ) → Bool
is_text_if_there None = true
is_text_if_there (Some text) = is_text text

-- the texts that a command names are words: none is empty, and none has a control byte
abbrev pub are_texts : Asked → Bool
are_texts (comparison old new map_name) = is_text old && is_text new && is_text_if_there map_name
are_texts (function_run file function arguments steps) = is_text file && is_text function && list_all is_text arguments
