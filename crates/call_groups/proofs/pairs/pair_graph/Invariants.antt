use Rattle.call_graph.specs.Graphs.{rows}
use Rattle.std.proofs.Common.{◌≡◌, take, map}
use Rattle.call_groups.specs.Groups.{called_by}
use Rattle.call_groups.proofs.pairs.pair_graph.Given as goal

abbrev pub invariant-pairs : goal.invariant-pairs
invariant-pairs l = rows l.successors.items ≡ map (called_by l.core) (take l.pair-index l.core.pairs)
