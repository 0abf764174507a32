use Rattle.std.proofs.Common.{◌++◌}
use Rattle.chain_resolution.specs.Marked.{marked}
use Rattle.clause_db.specs.Log.{literal_lists, results}
use Rattle.sat_search.specs.Parts.{IsPartFrom, ResolvesOn}
use Rattle.sat_search.proofs.shortening.shorten.Given as goal

abbrev pub invariant-loop-index : goal.invariant-loop-index
invariant-loop-index l = record {
  part : IsPartFrom l.trail.places.items l.bound (marked l.fn.marks.table.items) (marked l.marks.table.items);
  chain : ResolvesOn (literal_lists l.clauses.list.items ++ results l.lines) l.fn.pivots.items (marked l.fn.marks.table.items) l.pivots.items (marked l.marks.table.items);
}
