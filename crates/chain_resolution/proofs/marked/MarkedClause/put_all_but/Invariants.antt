use Rattle.chain_resolution.specs.Marked.{marked}
use Rattle.chain_resolution.proofs.Unions.{UnionTo}
use Rattle.chain_resolution.proofs.marked.MarkedClause.put_all_but.Given as goal

abbrev pub invariant-loop-place : goal.invariant-loop-place
invariant-loop-place l = UnionTo l.pivot (marked l.fn.self.table.items) l.other.literals.items (marked l.self.table.items) l.place
