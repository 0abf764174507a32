use Rattle.call_graph.proofs.tests.components_of.Goals as goal

pub components-requires-clause-graph : goal.components-requires-clause-graph
components-requires-clause-graph c = c.is_closed.ensures.0 c.if-not-is_closed.false
