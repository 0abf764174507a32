-- How one word spells an option, as a function.
use Rattle.std.specs.Prelude.{ℕ, ◌==◌, ◌&&◌, if◌then◌else◌, List, [], ◌∷◌, bytes_eq, Option, Some, None, option_map}
use Rattle.std.specs.Borrow.{Bor}
use Rattle.command_words.specs.declared.options.Flag.{Flag}
use Rattle.command_words.specs.declared.options.Flag.TheVariants.{Map, Steps}
use Rattle.command_words.specs.declared.lines.Spelling.{Spelling}
use Rattle.command_words.specs.Options.{name_of}

-- the option of this name
abbrev pub flag_named : List ℕ → Option Flag
flag_named name = if bytes_eq name (name_of Map) then Some Map else (if bytes_eq name (name_of Steps) then Some Steps else None)

-- an option, and its value where that is joined to it
abbrev pub Spelled : Type 0
Spelled = Flag × Option (List ℕ)

abbrev pub value_in : Option (Bor (List ℕ)) → Option (List ℕ)
value_in value = option_map (λ (text : Bor (List ℕ)). text.now) value

abbrev pub spelled_in : Spelling → Spelled
spelled_in spelling = (spelling.flag, value_in spelling.value)

-- what stands behind `--`
abbrev pub behind_dashes : List ℕ → Option (List ℕ)
behind_dashes (first ∷ second ∷ text) = if (first == 45) && (second == 45) then Some text else None
behind_dashes _ = None

-- a text up to its first `=`, and what stands behind that
abbrev pub cut : List ℕ → List ℕ × Option (List ℕ)
cut [] = ([], None)
cut (byte ∷ text) = if byte == 61 then ([], Some text) else (byte ∷ (cut text).0, (cut text).1)

abbrev pub option_in : List ℕ → Option Spelled
option_in text = option_map (λ flag. (flag, (cut text).1)) (flag_named (cut text).0)

abbrev pub option_behind : Option (List ℕ) → Option Spelled
option_behind None = None
option_behind (Some text) = option_in text

abbrev pub spelling_of : List ℕ → Option Spelled
spelling_of word = option_behind (behind_dashes word)
