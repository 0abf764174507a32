use Rattle.std.proofs.Common.{◌≡◌, ◌↔◌, ◌<◌, ℕ, length}
use Rattle.call_graph.specs.Graphs.{Edge, rows}
use Rattle.core_ir.specs.Calls.{Among, unit_calls}
use Rattle.touch_sets.proofs.callers.caller_graph.Given as goal

abbrev pub invariant-units : goal.invariant-units
invariant-units l = (length l.successors.items ≡ length l.core.units) × ((v u : ℕ) → Edge (rows l.successors.items) v u ↔ ((u < l.unit) × (v < length l.core.units) × Among v (unit_calls l.core u)))
