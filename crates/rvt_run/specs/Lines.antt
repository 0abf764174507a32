-- Lines of an answer.
use Rattle.std.specs.Prelude.{ℕ, List, [], ◌∷◌, ◌++◌, codes}
use Rattle.std.specs.Fmt.{decimal}

-- a line, with its newline
abbrev pub line : List ℕ → List ℕ → List ℕ
line first second = first ++ second ++ 10 ∷ []

-- `:LINE: TEXT`
abbrev pub line_said : ℕ → List ℕ → List ℕ
line_said number text = (codes ":" ++ (decimal number ++ codes ": ")) ++ text

-- a line of the file of this name that is refused
abbrev pub line_refused : List ℕ → ℕ → List ℕ → List (List ℕ)
line_refused name number text = line name (line_said number text) ∷ []
