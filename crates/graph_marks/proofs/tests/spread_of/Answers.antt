use Rattle.graph_marks.proofs.tests.spread_of.Goals as goal

pub spread-requires-clause-graph : goal.spread-requires-clause-graph
spread-requires-clause-graph c = c.is_closed.ensures.0 c.if-not-is_closed.false
