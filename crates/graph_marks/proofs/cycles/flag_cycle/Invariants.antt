use Rattle.std.proofs.Common.{◌≡◌, length}
use Rattle.call_graph.specs.Graphs.{rows}
use Rattle.graph_marks.proofs.Rounds.{MembersFlagged}
use Rattle.graph_marks.proofs.cycles.flag_cycle.Given as goal

abbrev pub invariant-members : goal.invariant-members
invariant-members l = (length l.flags.items ≡ length l.initial.flags.items) × MembersFlagged (rows l.graph.successors.items) l.group l.vertex-index l.initial.flags.items l.flags.items
