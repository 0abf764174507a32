-- Cells in a row.
use Rattle.std.specs.Prelude.{ℕ, ◌+◌, List, [], ◌∷◌, ◌++◌, map, take, drop}
use Rattle.rvt_num.specs.declared.values.Value.{Value}
use Rattle.c_meaning.specs.Stores.{cleared}

-- so many cells from one on are zero or null
abbrev pub with_cleared : ℕ → ℕ → List Value → List Value
with_cleared first count cells = take first cells ++ (map cleared (take count (drop first cells)) ++ drop (first + count) cells)

-- cells shared out to variables, so many to each
abbrev pub shared_out : List ℕ → List Value → List (List Value)
shared_out [] cells = []
shared_out (count ∷ counts) cells = take count cells ∷ shared_out counts (drop count cells)

-- the cells of variables, one after another
abbrev pub joined : List (List Value) → List Value
joined [] = []
joined (cells ∷ rest) = cells ++ joined rest
