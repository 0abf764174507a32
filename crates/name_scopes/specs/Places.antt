-- Where the bindings of a name stand.
use Rattle.std.specs.Prelude.{ℕ, List, [], ◌∷◌, length, map, get_or, nat_eq, if◌then◌else◌}
use Rattle.std.specs.Str.{bytes_eq}
use Rattle.name_scopes.specs.declared.places.Binding.{Binding}

-- the place of the first binding of a name, counted from 1 at the last of the list, or 0 if there is none
abbrev pub place_of : List (List ℕ) → List ℕ → ℕ
place_of [] name = 0
place_of (other ∷ names) name = if bytes_eq name other then length (other ∷ names) else place_of names name

-- the same for the number of a name
abbrev pub place_of_number : List Binding → ℕ → ℕ
place_of_number [] number = 0
place_of_number (binding ∷ bindings) number = if nat_eq number binding.number then length (binding ∷ bindings) else place_of_number bindings number

-- the names of the bindings
abbrev pub names_of : List (List ℕ) → List Binding → List (List ℕ)
names_of texts = map (λ (binding : Binding). get_or texts binding.number [])
