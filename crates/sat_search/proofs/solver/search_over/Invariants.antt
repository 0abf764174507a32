use Rattle.std.proofs.Common.{◌≡◌, ℕ, ◌+◌, ◌*◌, ◌-◌, ◌<◌, ◌++◌, length, take, slice_index_or}
use Rattle.clause_db.specs.declared.clause.LogLine.{LogLine}
use Rattle.clause_db.specs.Log.{literal_lists, results, IsLog}
use Rattle.clause_db.specs.Propagation.{StrengthensPropagation}
use Rattle.unit_propagation.specs.Status.{FitsVariables}
use Rattle.unit_propagation.specs.Watching.{entries, IsWatched}
use Rattle.sat_search.specs.Learning.{IsSearching}
use Rattle.sat_search.proofs.solver.search_over.Given as goal

abbrev pub invariant-steps : goal.invariant-steps
invariant-steps g l = record {
  variables : length l.trail.places.items ≡ l.variables + 1;
  fits : FitsVariables (length l.trail.places.items) (literal_lists l.clauses.list.items ++ results l.log.lines.items);
  searching : IsSearching (literal_lists l.clauses.list.items ++ results l.log.lines.items) l.trail.literals.items l.trail.starts.items l.trail.reasons.items;
  watched : IsWatched (literal_lists l.clauses.list.items ++ results l.log.lines.items) l.trail.literals.items l.trail.starts.items (length l.trail.places.items) l.watches.head l.watches.pairs.items (entries l.watches.lists.items) l.watches.pending.items;
  known : length l.watches.pairs.items ≡ length (literal_lists l.clauses.list.items ++ results l.log.lines.items);
  log : IsLog (literal_lists l.clauses.list.items) l.log.lines.items;
  strengthens : (k : ℕ) (d : LogLine) → k < length l.log.lines.items → StrengthensPropagation (literal_lists l.clauses.list.items ++ results (take k l.log.lines.items)) (slice_index_or l.log.lines.items k d).result.literals.items;
  below : length l.log.lines.items < l.limit;
}

abbrev pub decreases-steps : goal.decreases-steps
decreases-steps g l = (l.limit - length l.log.lines.items) * (length l.trail.places.items + 1) + (length l.trail.places.items - length l.trail.literals.items)
