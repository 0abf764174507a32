use Rattle.call_graph.specs.Graphs.{rows}
use Rattle.graph_marks.specs.Marks.{IsSpread, work}
use Rattle.graph_marks.proofs.marks.spread.Given as goal

abbrev pub invariant-steps : goal.invariant-steps
invariant-steps l = IsSpread (rows l.graph.successors.items) l.seeds l.blocked l.marks.items l.pending.items

abbrev pub decreases-steps : goal.decreases-steps
decreases-steps l = work (rows l.graph.successors.items) l.marks.items l.pending.items
