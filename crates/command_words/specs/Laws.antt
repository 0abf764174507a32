-- What is proved of the definitions.
use Rattle.std.specs.Prelude.{◌≡◌, ℕ, List}
use Rattle.command_words.specs.Commands.{Asked, IsCommand}

-- the same words are one command at most
abbrev pub OneCommand : Type 0
OneCommand = (words : List (List ℕ)) (a b : Asked) → IsCommand words a → IsCommand words b → a ≡ b
