use Rattle.std.proofs.Common.{length}
use Rattle.chain_resolution.proofs.marked.MarkedClause.clear.Given as goal

abbrev pub decreases-loop-self : goal.decreases-loop-self
decreases-loop-self l = length l.self.touched.items
