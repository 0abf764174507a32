-- The graph of callers.
use Rattle.std.specs.Prelude.{◌≡◌, ◌↔◌, ◌<◌, ℕ, List, length}
use Rattle.call_graph.specs.Graphs.{Edge}
use Rattle.core_ir.specs.Calls.{Among, unit_calls}
use Rattle.core_ir.specs.declared.cores.Core.{Core}

-- the vertices are the units, and an edge leads from each to those that call it
pub record AreCallers (core : Core) (graph : List (List ℕ)) : Type 0 where
  pub sized : length graph ≡ length core.units
  pub edges : (v u : ℕ) → Edge graph v u ↔ ((v < length core.units) × Among v (unit_calls core u))
