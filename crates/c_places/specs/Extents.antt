-- Where the objects lie: each behind the one before it, and constant ones nowhere.
use Rattle.std.specs.Prelude.{ℕ, ◌+◌, List, [], ◌∷◌, ◌++◌, length, slice_get, if◌then◌else◌, Option, Some, None, option_map}
use Rattle.rvt_num.specs.declared.values.Value.{Value}
use Rattle.rvt_tree.specs.declared.programs.Object.{Object}
use Rattle.c_meaning.specs.Stores.{stored, first_cell}
use Rattle.c_meaning.specs.Runs.{is_owner}
use Rattle.c_places.specs.declared.extents.Extent.{Extent}
use Rattle.c_places.specs.declared.ranges.Range.{Range}

-- an object that begins at a cell of the store
abbrev pub extent_at : ℕ → Object → Extent
extent_at first object = record { first = first; length = length object.initial; constant = object.constant }

abbrev pub extents_from : ℕ → List Object → List Extent
extents_from first [] = []
extents_from first (object ∷ objects) = extent_at first object ∷ extents_from (first + stored object) objects

abbrev pub extent_of : List Object → ℕ → Option Extent
extent_of objects number = option_map (extent_at (first_cell objects number)) (slice_get objects number)

abbrev pub contents_of : Option Object → List Value
contents_of None = []
contents_of (Some object) = object.initial

-- the cells of the objects that a function owns, in their order
abbrev pub own_range : ℕ → Option ℕ → Range → List Range
own_range function owner range = if is_owner function owner then range ∷ [] else []

abbrev pub owned_ranges : ℕ → ℕ → List Object → List Range
owned_ranges function first [] = []
owned_ranges function first (object ∷ objects) =
    own_range function object.owner (record { first = first; length = stored object }) ++ owned_ranges function (first + stored object) objects
