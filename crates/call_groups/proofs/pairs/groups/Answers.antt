use Rattle.std.proofs.Common.{subst, sym}
use Rattle.call_graph.specs.Graphs.{IsGraph, rows}
use Rattle.call_graph.specs.Components.{AreComponents}
use Rattle.call_groups.proofs.Edges.{are_groups, is_graph}
use Rattle.call_groups.proofs.pairs.groups.Goals as goal

pub components-requires-clause-graph : goal.components-requires-clause-graph
components-requires-clause-graph c = subst IsGraph (sym c.in_ok-graph.ensures.edges) (is_graph c.args.core.now)

pub returns : goal.returns
returns c = are_groups c.args.core.now (rows c.in_ok-groups.groups.items) (subst (λ g. AreComponents g (rows c.in_ok-groups.groups.items)) c.in_ok-graph.ensures.edges c.in_ok-groups.ensures)
