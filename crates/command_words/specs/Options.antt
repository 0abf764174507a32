-- The options, and which commands take them.
use Rattle.std.specs.Prelude.{ℕ, Bool, true, false, List, codes}
use Rattle.command_words.specs.declared.options.Flag.{Flag}
use Rattle.command_words.specs.declared.options.Flag.TheVariants.{Map, Steps}
use Rattle.command_words.specs.declared.options.Verb.{Verb}
use Rattle.command_words.specs.declared.options.Verb.TheVariants.{Compare, Run}

-- the command's word
abbrev pub word_of : Verb → List ℕ
word_of Compare = codes "compare"
word_of Run = codes "run"

-- an option's name, behind `--`
abbrev pub name_of : Flag → List ℕ
name_of Map = codes "map"
name_of Steps = codes "steps"

-- whether it has a value
abbrev pub has_value : Flag → Bool
has_value Map = true
has_value Steps = true

-- whether a command takes it
abbrev pub takes : Verb → Flag → Bool
takes Compare Map = true
takes Compare Steps = false
takes Run Map = false
takes Run Steps = true
