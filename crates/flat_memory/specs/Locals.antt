-- The locals of all activations.
use Rattle.std.specs.Prelude.{ℕ, ◌+◌, ◌<◌, ◌≤◌, ◌^◌, List, [], ◌++◌, length, map, take, drop, get_or}
use Rattle.rvt_num.specs.declared.values.Value.{Value}
use Rattle.flat_memory.specs.Cells.{shared_out, joined}

-- the cells of each function's locals when it is entered; the cells of the activations that wait, one after another; the
-- cells of each local of the one that runs; and how many cells there is room for
pub record Stacked : Type 0 where
  pub entries : List (List (List Value))
  pub below : List Value
  pub here : List (List Value)
  pub room : ℕ

-- an activation of a function begins
abbrev pub entered : ℕ → Stacked → Stacked
entered function it = record { entries = it.entries; below = it.below ++ joined it.here; here = get_or it.entries function []; room = it.room }

-- what an array stands for in which the activation that runs begins at a cell
abbrev pub view_of : List (List (List Value)) → List Value → ℕ → ℕ → Stacked
view_of entries cells base function =
    record { entries = entries; below = take base cells; here = shared_out (map length (get_or entries function [])) (drop base cells); room = length cells }

pub record HasRoom (entries : List (List (List Value))) (cells : List Value) (base function : ℕ) : Type 0 where
  pub inside : base + length (joined (get_or entries function [])) ≤ length cells
  pub short : length cells < 2 ^ 32
