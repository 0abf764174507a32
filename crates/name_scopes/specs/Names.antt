-- Names, and what they stand for.
use Rattle.std.specs.Prelude.{ℕ, List, [], ◌∷◌, Option, Some, None, if◌then◌else◌, refl}
use Rattle.std.specs.Coded.{Coded, code_by, coded×, coded_list, coded_ℕ}
use Rattle.std.specs.Str.{bytes_eq}

-- a name, and what it stands for
pub record Named (T : Type 0) : Type 0 where
  pub name : List ℕ
  pub value : T

module _ {T : Type 0} where
  -- a named value is stored as the pair of its parts
  abbrev pub named_code : Coded T → Coded (Named T)
  named_code code = code_by (List ℕ × T) (coded× (coded_list coded_ℕ) code) (λ n. (n.name, n.value)) (λ p. record { name = p.0; value = p.1 }) (λ _. refl)

  -- What a name stands for: the first binding of the name tells.
  abbrev pub named_in : List (Named T) → List ℕ → Option T
  named_in [] name = None
  named_in (binding ∷ bindings) name = if bytes_eq name binding.name then Some binding.value else named_in bindings name

  -- names beside the values for which they stand
  abbrev pub bound : List (List ℕ) → List T → List (Named T)
  bound [] values = []
  bound (name ∷ names) [] = []
  bound (name ∷ names) (value ∷ values) = record { name = name; value = value } ∷ bound names values
