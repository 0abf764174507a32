-- Marks that spread along the edges of a graph, and stop before blocked vertices.
use Rattle.std.specs.Prelude.{◌≡◌, ◌⊎◌, ◌↔◌, ℕ, ◌+◌, ◌<◌, Bool, true, false, List, ◌∷◌, length}
use Rattle.call_graph.specs.Graphs.{At, Edge}

-- a mark comes to the vertex
pub data Spreads (graph : List (List ℕ)) (seeds blocked : List Bool) : ℕ → Type 0 where
  seed : (v : ℕ) → At seeds v true → At blocked v false → Spreads graph seeds blocked v
  passed : (v u : ℕ) → Spreads graph seeds blocked v → Edge graph v u → At blocked u false → Spreads graph seeds blocked u

-- the vertex stands in the list
abbrev pub Stands : List ℕ → ℕ → Type 0
Stands vertices v = (k : ℕ) × At vertices k v

abbrev pub AreSeeds : List Bool → List ℕ → Type 0
AreSeeds seeds vertices = (v : ℕ) → Stands vertices v ↔ At seeds v true

-- what holds while marks spread
pub record IsSpread (graph : List (List ℕ)) (seeds blocked marks : List Bool) (pending : List ℕ) : Type 0 where
  pub sized : length marks ≡ length graph
  pub in_graph : (v : ℕ) → Stands pending v → v < length graph
  -- a mark comes to each marked vertex, and to each pending one that isn't blocked
  pub sound : (v : ℕ) → At marks v true → Spreads graph seeds blocked v
  pub ready : (v : ℕ) → Stands pending v → At blocked v false → Spreads graph seeds blocked v
  -- each seed, and each end of an edge from a marked vertex, is marked, pending or blocked
  pub seeded : (v : ℕ) → At seeds v true → At blocked v false → At marks v true ⊎ Stands pending v
  pub closed : (v u : ℕ) → At marks v true → Edge graph v u → At blocked u false → At marks u true ⊎ Stands pending u

-- the steps that are left: for each unmarked vertex one and its edges, and one for each pending end
abbrev pub unmarked_work : List (List ℕ) → List Bool → ℕ
unmarked_work (row ∷ graph) (false ∷ marks) = (1 + length row) + unmarked_work graph marks
unmarked_work (row ∷ graph) (true ∷ marks) = unmarked_work graph marks
unmarked_work graph marks = 0

abbrev pub work : List (List ℕ) → List Bool → List ℕ → ℕ
work graph marks pending = unmarked_work graph marks + length pending
