use Rattle.std.proofs.Common.{◌≡◌, ◌↔◌, ℕ, true, length}
use Rattle.call_graph.specs.Graphs.{At, rows}
use Rattle.graph_marks.proofs.Rounds.{IsFlagged}
use Rattle.graph_marks.proofs.cycles.on_cycles.Given as goal

abbrev pub invariant-groups : goal.invariant-groups
invariant-groups l = (length l.flags.items ≡ length l.graph.successors.items) × ((v : ℕ) → At l.flags.items v true ↔ IsFlagged (rows l.graph.successors.items) (rows l.group-items) l.group-index v)
