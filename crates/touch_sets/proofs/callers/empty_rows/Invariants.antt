use Rattle.std.proofs.Common.{◌≡◌, ℕ, length}
use Rattle.call_graph.specs.Graphs.{Edge, rows}
use Rattle.touch_sets.proofs.callers.empty_rows.Given as goal

abbrev pub invariant-rows : goal.invariant-rows
invariant-rows l = (length l.empty.items ≡ l._row) × ((v u : ℕ) → Edge (rows l.empty.items) v u → ⊥)
