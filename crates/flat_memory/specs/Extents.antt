-- Where the cells of objects lie: each behind the one before it, those of constant objects apart from the others.
use Rattle.std.specs.Prelude.{ℕ, zero, suc, ◌+◌, List, [], ◌∷◌, ◌++◌, length, slice_get, if◌then◌else◌, Option, option_map}
use Rattle.rvt_num.specs.declared.values.Value.{Value}
use Rattle.rvt_tree.specs.declared.programs.Object.{Object}
use Rattle.c_meaning.specs.Stores.{stored, first_cell}
use Rattle.flat_memory.specs.declared.extents.Extent.{Extent}

-- how many of the constant cells are an object's
abbrev pub kept_apart : Object → ℕ
kept_apart object = if object.constant then length object.initial else 0

abbrev pub extent_at : ℕ → ℕ → Object → Extent
extent_at first constants object = record { first = if object.constant then constants else first; count = length object.initial; constant = object.constant }

abbrev pub extents_from : ℕ → ℕ → List Object → List Extent
extents_from first constants [] = []
extents_from first constants (object ∷ objects) = extent_at first constants object ∷ extents_from (first + stored object) (constants + kept_apart object) objects

-- the contents of the constant objects, one after another
abbrev pub constant_contents : List Object → List Value
constant_contents [] = []
constant_contents (object ∷ objects) = (if object.constant then object.initial else []) ++ constant_contents objects

-- how many cells the store has
abbrev pub store_length : List Object → ℕ
store_length [] = 0
store_length (object ∷ objects) = stored object + store_length objects

-- the cell of the constant ones at which an object begins
abbrev pub first_constant : List Object → ℕ → ℕ
first_constant [] number = 0
first_constant (object ∷ objects) zero = 0
first_constant (object ∷ objects) (suc number) = kept_apart object + first_constant objects number

abbrev pub extent_of : List Object → ℕ → Option Extent
extent_of objects number = option_map (extent_at (first_cell objects number) (first_constant objects number)) (slice_get objects number)
