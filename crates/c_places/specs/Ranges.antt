-- Runs of cells in a store: read, cleared, and written.
use Rattle.std.specs.Prelude.{ℕ, ◌+◌, ◌-◌, List, [], ◌∷◌, ◌++◌, map, take, drop, Bool, true, ◌&&◌, nat_le}
use Rattle.rvt_num.specs.declared.values.Value.{Value}
use Rattle.c_meaning.specs.Stores.{cleared, overwritten}
use Rattle.c_places.specs.declared.ranges.Range.{Range}

abbrev pub with_cleared : ℕ → ℕ → List Value → List Value
with_cleared first length cells = take first cells ++ (map cleared (take length (drop first cells)) ++ drop (first + length) cells)

abbrev pub cells_in_ranges : List Range → List Value → List Value
cells_in_ranges [] store = []
cells_in_ranges (range ∷ ranges) store = take range.length (drop range.first store) ++ cells_in_ranges ranges store

abbrev pub with_cleared_ranges : List Range → List Value → List Value
with_cleared_ranges [] store = store
with_cleared_ranges (range ∷ ranges) store = with_cleared_ranges ranges (with_cleared range.first range.length store)

-- there are cells enough for the ranges, and the ranges lie in a store of this length
abbrev pub fits : List Range → ℕ → ℕ → Bool
fits [] cells store = true
fits (range ∷ ranges) cells store = nat_le range.length cells && (nat_le (range.first + range.length) store && fits ranges (cells - range.length) store)

abbrev pub with_ranges : List Range → List Value → List Value → List Value
with_ranges [] cells store = store
with_ranges (range ∷ ranges) cells store = with_ranges ranges (drop range.length cells) (overwritten store range.first (take range.length cells))
