use Rattle.std.proofs.Common.{◌≡◌, take}
use Rattle.call_graph.specs.Graphs.{rows}
use Rattle.call_cycles.specs.Noted.{calls_between}
use Rattle.call_cycles.proofs.cycles.graph_of.Given as goal

abbrev pub invariant-functions : goal.invariant-functions
invariant-functions l = rows l.successors.items ≡ calls_between (take l.function-index l.functions)
