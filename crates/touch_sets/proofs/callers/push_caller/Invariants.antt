use Rattle.std.proofs.Common.{◌≡◌, ◌↔◌, ◌⊎◌, ◌<◌, ℕ, length, take}
use Rattle.call_graph.specs.Graphs.{Edge, rows}
use Rattle.core_ir.specs.Calls.{Among}
use Rattle.touch_sets.proofs.callers.push_caller.Given as goal

abbrev pub invariant-calls : goal.invariant-calls
invariant-calls l = (length l.successors.items ≡ length l.initial.successors.items) × ((v u : ℕ) → Edge (rows l.successors.items) v u ↔ (Edge (rows l.initial.successors.items) v u ⊎ ((u ≡ l.caller) × Among v (take l.callee-index l.calls) × (v < length l.initial.successors.items))))
