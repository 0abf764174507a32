-- Where the locals of a function lie among the cells of its activation.
use Rattle.std.specs.Prelude.{◌≡◌, ℕ, ◌+◌, List, [], ◌∷◌, length, map, take, slice_get, Option, option_map}
use Rattle.rvt_num.specs.declared.values.Value.{Value}
use Rattle.flat_memory.specs.declared.entries.Spot.{Spot}
use Rattle.flat_memory.specs.Cells.{joined}

abbrev pub counts_of : List Spot → List ℕ
counts_of = map (λ spot. spot.count)

abbrev pub all_of : List ℕ → ℕ
all_of [] = 0
all_of (count ∷ counts) = count + all_of counts

-- each behind the one before it
abbrev pub spots_from : ℕ → List ℕ → List Spot
spots_from first [] = []
spots_from first (n ∷ counts) = record { first = first; count = n } ∷ spots_from (first + n) counts

pub record AreSpots (spots : List Spot) (cells : List Value) : Type 0 where
  pub lie : spots ≡ spots_from 0 (counts_of spots)
  pub fill : length cells ≡ all_of (counts_of spots)

-- the spot of a local among these
abbrev pub spot_of : List (List Value) → ℕ → Option Spot
spot_of locals number = option_map (λ cells. record { first = length (joined (take number locals)); count = length cells }) (slice_get locals number)
