use Rattle.std.proofs.Common.{sym, subst}
use Rattle.call_graph.specs.Graphs.{IsGraph}
use Rattle.call_cycles.proofs.cycles.on_cycle.Goals as goal

pub on_cycles-requires-clause-graph : goal.on_cycles-requires-clause-graph
on_cycles-requires-clause-graph c = subst IsGraph (sym c.in_ok-graph.ensures) c.requires.known
