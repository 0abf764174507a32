-- Different texts, one behind another.
use Rattle.std.specs.Prelude.{ℕ, ◌≡◌, ◌<◌, false, List, [], ◌∷◌, ◌++◌, length, get_or, if◌then◌else◌}
use Rattle.std.specs.List.{list_any}
use Rattle.std.specs.Str.{bytes_eq}

-- the texts with one more, unless it is among them
abbrev pub with_text : List (List ℕ) → List ℕ → List (List ℕ)
with_text texts text = if list_any (bytes_eq text) texts then texts else texts ++ text ∷ []

-- The text stands under the number.
abbrev pub StandsAt : List (List ℕ) → ℕ → List ℕ → Type 0
StandsAt texts number text = (number < length texts) × (get_or texts number [] ≡ text)

-- no text stands twice
abbrev pub AreDifferent : List (List ℕ) → Type 0
AreDifferent [] = Unit {0}
AreDifferent (text ∷ texts) = (list_any (bytes_eq text) texts ≡ false) × AreDifferent texts
