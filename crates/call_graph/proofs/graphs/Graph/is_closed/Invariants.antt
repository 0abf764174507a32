use Rattle.std.proofs.Common.{ℕ, ◌<◌, List, length}
use Rattle.call_graph.specs.Graphs.{At, rows}
use Rattle.call_graph.proofs.graphs.Graph.is_closed.Given as goal

abbrev pub invariant-rows : goal.invariant-rows
invariant-rows l = (from place to : ℕ) (row : List ℕ) → from < l.row-index → At (rows l.self.successors.items) from row → At row place to → to < length l.self.successors.items
