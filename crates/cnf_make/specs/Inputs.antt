-- What an assignment of the variables gives to the inputs of a circuit.
use Rattle.std.specs.Prelude.{◌≡◌, ℕ, zero, suc, ◌+◌, ◌<◌, ℤ, Bool, false, List, [], ◌∷◌, ◌++◌, slice_index_or}
use Rattle.clause_db.specs.Assignment.{Satisfies}

-- the bits of the first n inputs, whose variables are 2 and up
abbrev pub input_bits : ℕ → (ℕ → Bool) → List Bool
input_bits zero assignment = []
input_bits (suc n) assignment = input_bits n assignment ++ assignment (n + 2) ∷ []

-- an assignment that gives the inputs these bits satisfies the clauses
pub record CanSatisfy (clauses : List (List ℤ)) (inputs : ℕ) (bits : List Bool) : Type 0 where
  pub assignment : ℕ → Bool
  pub inputs_have : (k : ℕ) → k < inputs → assignment (k + 2) ≡ slice_index_or bits k false
  pub satisfies : Satisfies assignment clauses
