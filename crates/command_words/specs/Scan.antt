-- The words behind a command, read one after another.
use Rattle.std.specs.Prelude.{ℕ, Bool, true, false, if◌then◌else◌, List, [], ◌∷◌, ◌++◌, map, codes, bytes_eq, Option, Some, None, option_map}
use Rattle.std.specs.Borrow.{Bor}
use Rattle.command_words.specs.declared.options.Flag.{Flag}
use Rattle.command_words.specs.declared.options.Verb.{Verb}
use Rattle.command_words.specs.declared.lines.State.{State}
use Rattle.command_words.specs.declared.lines.State.TheVariants.{Open, Waiting, Behind}
use Rattle.command_words.specs.declared.lines.Line.{Line}
use Rattle.command_words.specs.declared.lines.Setting.{Setting as Set}
use Rattle.command_words.specs.Lines.{begins_with_dash, Setting}
use Rattle.command_words.specs.Options.{has_value, takes}
use Rattle.command_words.specs.Spellings.{Spelled, spelling_of}
use Rattle.command_words.specs.Texts.{is_text}

-- positional words, and settings
abbrev pub Said : Type 0
Said = List (List ℕ) × List Setting

abbrev pub names_in : Line → List (List ℕ)
names_in line = map (λ (name : Bor (List ℕ)). name.now) line.names.items

abbrev pub setting_of : Set → Setting
setting_of setting = (setting.flag, setting.value.now)

abbrev pub settings_in : Line → List Setting
settings_in line = map setting_of line.settings.items

abbrev pub said_by : Line → Said
said_by line = (names_in line, settings_in line)

-- one more in front
abbrev pub with_name : List ℕ → Option Said → Option Said
with_name name said = option_map (λ s. (name ∷ s.0, s.1)) said

abbrev pub with_setting : Flag → List ℕ → Option Said → Option Said
with_setting flag value said = option_map (λ s. (s.0, (flag, value) ∷ s.1)) said

-- an option that the command takes; `go` reads the words behind it
abbrev pub option_with : Bool → Flag → Option (List ℕ) → (State → Option Said) → Option Said
option_with true flag None go = go (Waiting flag)
option_with true flag (Some value) go = if is_text value then with_setting flag value (go Open) else None
option_with false flag None go = with_setting flag [] (go Open)
option_with false flag (Some value) go = None

abbrev pub option_step : Verb → Option Spelled → (State → Option Said) → Option Said
option_step verb None go = None
option_step verb (Some spelled) go = if takes verb spelled.0 then option_with (has_value spelled.0) spelled.0 spelled.1 go else None

-- one word
abbrev pub open_step : Verb → List ℕ → (State → Option Said) → Option Said
open_step verb word go =
    if begins_with_dash word
    then (if bytes_eq word (codes "--") then go Behind else option_step verb (spelling_of word) go)
    else with_name word (go Open)

abbrev pub value_step : Flag → List ℕ → (State → Option Said) → Option Said
value_step flag word go = if begins_with_dash word then None else with_setting flag word (go Open)

abbrev pub text_step : Verb → State → List ℕ → (State → Option Said) → Option Said
text_step verb Open word go = open_step verb word go
text_step verb (Waiting flag) word go = value_step flag word go
text_step verb Behind word go = with_name word (go Behind)

abbrev pub step : Verb → State → List ℕ → (State → Option Said) → Option Said
step verb state word go = if is_text word then text_step verb state word go else None

-- the end of the words: no value may be missing
abbrev pub at_end : State → Option Said
at_end Open = Some ([], [])
at_end (Waiting flag) = None
at_end Behind = Some ([], [])

-- what the words say
abbrev pub scan : Verb → State → List (List ℕ) → Option Said
scan verb state [] = at_end state
scan verb state (word ∷ words) = step verb state word (λ next. scan verb next words)

-- what was read, and then this
abbrev pub joined_to : Line → Option Said → Option Said
joined_to line said = option_map (λ s. (names_in line ++ s.0, settings_in line ++ s.1)) said

-- what was read, and then what is read from this state on
abbrev pub after : Line → Option State → (State → Option Said) → Option Said
after line None go = None
after line (Some state) go = joined_to line (go state)
