use Rattle.std.proofs.Common.{ℕ, ◌<◌}
use Rattle.call_graph.specs.Graphs.{At}
use Rattle.call_graph.proofs.graphs.all_below.Given as goal

abbrev pub invariant-vertices : goal.invariant-vertices
invariant-vertices l = (place vertex : ℕ) → place < l.vertex-index → At l.vertices place vertex → vertex < l.count
