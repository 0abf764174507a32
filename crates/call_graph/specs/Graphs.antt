-- Edges and paths of a graph that is given by the successors of each vertex.
use Rattle.std.specs.Prelude.{◌≡◌, ℕ, ◌<◌, List, Some, Vec, map, slice_get, length}
use Rattle.std.specs.Global.{Global}

-- what vectors of vectors hold, as lists of lists
abbrev pub rows : List (Vec ℕ Global) → List (List ℕ)
rows vectors = map (λ v. v.items) vectors

-- the element stands at the place
abbrev pub At : {X : Type 0} → List X → ℕ → X → Type 0
At xs k x = slice_get xs k ≡ Some x

-- an edge leads from the one vertex to the other
pub record Edge (graph : List (List ℕ)) (from to : ℕ) : Type 0 where
  pub successors : List ℕ
  pub is_there : At graph from successors
  pub place : ℕ
  pub leads : At successors place to

-- a path of any length, also none
pub data Reaches (graph : List (List ℕ)) : ℕ → ℕ → Type 0 where
  here : {u : ℕ} → Reaches graph u u
  onward : {u v w : ℕ} → Edge graph u v → Reaches graph v w → Reaches graph u w

-- each edge leads to a vertex of the graph
abbrev pub IsGraph : List (List ℕ) → Type 0
IsGraph graph = (u v : ℕ) → Edge graph u v → v < length graph
