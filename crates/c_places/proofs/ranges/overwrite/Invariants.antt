use Rattle.std.proofs.Common.{◌≡◌, ◌≤◌, drop, length}
use Rattle.c_meaning.specs.Stores.{overwritten}
use Rattle.c_places.proofs.ranges.overwrite.Given as goal

-- the cells that are left belong at the place that was reached
abbrev pub invariant-loop-cell : goal.invariant-loop-cell
invariant-loop-cell l = record {
  within : l.at ≤ length l.store.items;
  written : overwritten l.store.items l.at (drop l.cell-index l.cells) ≡ overwritten l.initial.store.items l.fn.first l.cells;
}
