-- The literals of a clause can be taken in any order.
use Rattle.std.specs.Prelude.{◌≡◌, ℕ, ◌<◌, ℤ, List, length, Contains}
use Rattle.clause_db.specs.Literal.{variable_of}
use Rattle.unit_propagation.specs.Places.{literal_at}

-- no variable stands twice
abbrev pub AreDistinct : List ℤ → Type 0
AreDistinct literals =
    (i j : ℕ) → i < length literals → j < length literals → variable_of (literal_at literals i) ≡ variable_of (literal_at literals j) → i ≡ j

-- each literal of one stands in the other
abbrev pub HaveSameLiterals : List ℤ → List ℤ → Type 0
HaveSameLiterals xs ys = ((l : ℤ) → Contains xs l → Contains ys l) × ((l : ℤ) → Contains ys l → Contains xs l)
