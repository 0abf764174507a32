-- The first of the places at which addresses of locals are taken.
use Rattle.std.specs.Prelude.{◌≡◌, ℕ, List, [], ◌∷◌, Option, Some, None}
use Rattle.rvt_tree.specs.declared.places.Place.{Place}
use Rattle.rvt_tree.specs.declared.expressions.Variable.{Variable}
use Rattle.rvt_tree.specs.declared.expressions.Variable.TheVariants as V
use Rattle.call_graph.specs.Graphs.{At}
use Rattle.file_typing.specs.CallCycles.{IsNotBehind}
use Rattle.typing_base.specs.declared.addresses.Taken.{Taken}

-- one of the places, not behind any of them; or there are none
abbrev pub IsFirstOf : List Place → Option Place → Type 0
IsFirstOf places None = places ≡ []
IsFirstOf places (Some first) = ((k : ℕ) × At places k first) × ((k : ℕ) (place : Place) → At places k place → IsNotBehind first place)

abbrev pub place_for : Place → Variable → List Place
place_for place (V.Local number) = place ∷ []
place_for place (V.Object number) = []

-- the place, if the address is one of a local
abbrev pub local_place : Taken → List Place
local_place taken = place_for taken.place taken.variable
