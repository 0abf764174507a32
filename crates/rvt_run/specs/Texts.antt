-- Texts of one line.
use Rattle.std.specs.Prelude.{◌≡◌, ℕ, ◌==◌, false, List, [], ◌∷◌}

-- no byte of it ends a line
abbrev pub HasNoLineEnd : List ℕ → Type 0
HasNoLineEnd [] = Unit {0}
HasNoLineEnd (byte ∷ bytes) = ((byte == 10) ≡ false) × HasNoLineEnd bytes
