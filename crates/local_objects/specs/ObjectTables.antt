-- A table of the objects that the locals of a function are.
use Rattle.std.specs.Prelude.{ℕ, List, Bool, false, get_or, Option, None}

-- the object that a local is; a local beyond the end is none
abbrev pub object_at : List (Option ℕ) → ℕ → Option ℕ
object_at objects number = get_or objects number None

-- whether a local is an object, where a flag says it of each; one beyond the end is none
abbrev pub is_flagged : List Bool → ℕ → Bool
is_flagged flags number = get_or flags number false
