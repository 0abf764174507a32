-- A text cut into parts.
use Rattle.std.specs.Prelude.{ℕ, ◌+◌, ◌==◌, if◌then◌else◌, List, [], ◌∷◌, ◌++◌, length, Option, Some, None}
use Rattle.std.specs.Borrow.{Bor}

-- the parts of a text between the marks in it, where this is what stands already of the first part
abbrev pub parts_from : ℕ → List ℕ → List ℕ → List (List ℕ)
parts_from mark part [] = part ∷ []
parts_from mark part (byte ∷ bytes) = if byte == mark then part ∷ parts_from mark [] bytes else parts_from mark (part ++ byte ∷ []) bytes

-- the parts of a text between the marks in it: one more than there are marks
abbrev pub parts : ℕ → List ℕ → List (List ℕ)
parts mark = parts_from mark []

-- the same of what stands behind a mark, if there is one
abbrev pub parts_behind : ℕ → Option (Bor (List ℕ)) → List (List ℕ)
parts_behind mark None = []
parts_behind mark (Some text) = parts mark text.now

-- at most so many parts stand behind a mark
abbrev pub most_parts : Option (Bor (List ℕ)) → ℕ
most_parts None = 0
most_parts (Some text) = length text.now + 1
