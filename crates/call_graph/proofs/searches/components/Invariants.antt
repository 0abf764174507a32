use Rattle.std.proofs.Common.{◌≡◌, ℕ, ◌<◌, [], Some}
use Rattle.call_graph.specs.Graphs.{At, rows}
use Rattle.call_graph.specs.Walks.{IsWalk, work}
use Rattle.call_graph.proofs.searches.components.Given as goal

abbrev pub invariant-vertices : goal.invariant-vertices
invariant-vertices l = record {
  walk : IsWalk (rows l.graph.successors.items) l.walk.places.items l.walk.open.items l.walk.pending.items l.walk.blocks.items (rows l.walk.groups.items);
  no_block : l.walk.blocks.items ≡ [];
  seen : (v : ℕ) → v < l.vertex → (i : ℕ) × At l.walk.places.items v (Some i);
}

abbrev pub invariant-steps : goal.invariant-steps
invariant-steps l = record {
  walk : IsWalk (rows l.graph.successors.items) l.walk.places.items l.walk.open.items l.walk.pending.items l.walk.blocks.items (rows l.walk.groups.items);
  here : (i : ℕ) × At l.walk.places.items l.vertex (Some i);
  seen : (v : ℕ) → v < l.vertex → (i : ℕ) × At l.walk.places.items v (Some i);
}

abbrev pub decreases-steps : goal.decreases-steps
decreases-steps l = work (rows l.graph.successors.items) l.walk.places.items l.walk.pending.items l.walk.blocks.items
