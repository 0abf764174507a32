use Rattle.std.proofs.Common.{ℕ, ◌<◌}
use Rattle.call_graph.specs.Graphs.{At}
use Rattle.graph_marks.proofs.cycles.stands_in.Given as goal

abbrev pub invariant-vertices : goal.invariant-vertices
invariant-vertices l = (place : ℕ) → place < l.other-index → At l.vertices place l.vertex → ⊥
