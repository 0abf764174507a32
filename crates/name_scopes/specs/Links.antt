-- What ties the bindings of a name to one another.
use Rattle.std.specs.Prelude.{ℕ, ◌≡◌, ◌<◌, ◌≤◌, List, [], ◌∷◌, length, get_or}
use Rattle.name_scopes.specs.declared.places.Binding.{Binding}
use Rattle.name_scopes.specs.Places.{place_of_number}

-- Each binding has a number below the count, and the place of the binding that it hides.
abbrev pub AreChained : ℕ → List Binding → Type 0
AreChained count [] = Unit {0}
AreChained count (binding ∷ bindings) = (binding.number < count) × (binding.hidden ≡ place_of_number bindings binding.number) × AreChained count bindings

-- the texts by their numbers, the place of each one's last binding, and the bindings
pub record AreLinked (texts : List (List ℕ)) (last : List ℕ) (bindings : List Binding) : Type 0 where
  pub room : length texts ≤ length last
  pub places : (number : ℕ) → get_or last number 0 ≡ place_of_number bindings number
  pub chained : AreChained (length texts) bindings
