-- What is found by its name.
use Rattle.std.specs.Prelude.{ℕ, ◌+◌, Bool, if◌then◌else◌, List, [], ◌∷◌, Option, None}

-- what the first element of the name gives, by its number and itself, where the elements are numbered from here on
abbrev pub sought_from : {X Y : Type 0} → (X → Bool) → (ℕ → X → Option Y) → ℕ → List X → Option Y
sought_from has_name gives number [] = None
sought_from has_name gives number (x ∷ rest) = if has_name x then gives number x else sought_from has_name gives (number + 1) rest

-- what the first element of the name gives, if there is one
abbrev pub sought : {X Y : Type 0} → (X → Bool) → (ℕ → X → Option Y) → List X → Option Y
sought has_name gives = sought_from has_name gives 0
