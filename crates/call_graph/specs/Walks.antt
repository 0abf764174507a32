-- What holds while a graph is walked.
use Rattle.std.specs.Prelude.{◌≡◌, ◌⊎◌, ℕ, ◌+◌, ◌<◌, ◌≤◌, List, ◌∷◌, Option, Some, None, length}
use Rattle.call_graph.specs.Graphs.{At, Edge, Reaches}
use Rattle.call_graph.specs.Components.{Stands, InGroup}
use Rattle.call_graph.specs.declared.walks.Block.{Block}

-- an open vertex from which an edge leads to the pending one at this place, in the block to which the place belongs
pub record Source (graph : List (List ℕ)) (open_ones : List ℕ) (blocks : List Block) (place vertex : ℕ) : Type 0 where
  pub from : ℕ
  pub at : ℕ
  pub is_open : At open_ones at from
  pub edge : Edge graph from vertex
  pub inside : (l : ℕ) (b : Block) → At blocks l b → b.pending ≤ place → b.open ≤ at
  pub outside : (l : ℕ) (b : Block) → At blocks l b → place < b.pending → at < b.open

-- the vertex is done, open in the block or above it, or pending there
abbrev pub IsMet : List ℕ → List ℕ → List (List ℕ) → Block → ℕ → Type 0
IsMet open_ones pending groups b v =
    ((k : ℕ) × InGroup groups k v) ⊎ (((j : ℕ) × (b.open ≤ j) × At open_ones j v) ⊎ ((k : ℕ) × (b.pending ≤ k) × At pending k v))

pub record IsWalk (graph : List (List ℕ)) (places : List (Option ℕ)) (open_ones pending : List ℕ) (blocks : List Block) (groups : List (List ℕ)) : Type 0 where
  pub sized : length places ≡ length graph
  -- a vertex is seen exactly where it is open or done
  pub placed : (v i : ℕ) → At open_ones i v → At places v (Some i)
  pub seen : (v i : ℕ) → At places v (Some i) → At open_ones i v ⊎ ((k : ℕ) × InGroup groups k v)
  pub grouped : (v k : ℕ) → InGroup groups k v → (i : ℕ) × At places v (Some i)
  pub apart : (v k i : ℕ) → InGroup groups k v → At open_ones i v → ⊥
  -- the groups are components, and edges lead from them to earlier ones alone
  pub once : (v j k p q : ℕ) → Stands groups j p v → Stands groups k q v → (j ≡ k) × (p ≡ q)
  pub mutual_reach : (u v k : ℕ) → InGroup groups k u → InGroup groups k v → Reaches graph u v
  pub order : (u v k : ℕ) → InGroup groups k u → Edge graph u v → (j : ℕ) × (j ≤ k) × InGroup groups j v
  -- each edge from a block on leads to what is done, open in that block or above it, or pending there
  pub leads : (l : ℕ) (b : Block) (u i v : ℕ) → At blocks l b → At open_ones i u → b.open ≤ i → Edge graph u v → IsMet open_ones pending groups b v
  -- an open vertex reaches those of its own block and of the later ones
  pub joined : (u v i j : ℕ) → At open_ones i u → At open_ones j v → ((l : ℕ) (b : Block) → At blocks l b → b.open ≤ i → b.open ≤ j) → Reaches graph u v
  pub source : (k v : ℕ) → At pending k v → Source graph open_ones blocks k v
  -- the blocks follow one another
  pub rising : (l m : ℕ) (b c : Block) → At blocks l b → At blocks m c → l < m → (b.open < c.open) × (b.pending ≤ c.pending)
  pub begins : (l : ℕ) (b : Block) → At blocks l b → (b.open < length open_ones) × (b.pending ≤ length pending)
  pub covered : (i : ℕ) → i < length open_ones → (l : ℕ) × (b : Block) × At blocks l b × (b.open ≤ i)

-- the steps that are left: for each vertex that wasn't seen two and its edges, and one for each pending edge and each block
abbrev pub unseen_work : List (List ℕ) → List (Option ℕ) → ℕ
unseen_work (row ∷ graph) (None ∷ places) = (2 + length row) + unseen_work graph places
unseen_work (row ∷ graph) (Some i ∷ places) = unseen_work graph places
unseen_work graph places = 0

abbrev pub work : List (List ℕ) → List (Option ℕ) → List ℕ → List Block → ℕ
work graph places pending blocks = unseen_work graph places + length pending + length blocks
