-- Vertices on cycles.
use Rattle.std.specs.Prelude.{ℕ, List}
use Rattle.call_graph.specs.Graphs.{Edge, Reaches}

-- an edge leads from the vertex to one that reaches it
pub record IsOnCycle (graph : List (List ℕ)) (v : ℕ) : Type 0 where
  pub next : ℕ
  pub edge : Edge graph v next
  pub back : Reaches graph next v
