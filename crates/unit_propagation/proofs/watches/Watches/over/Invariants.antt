use Rattle.std.proofs.Common.{◌≡◌, ◌+◌, [], length}
use Rattle.clause_db.specs.Log.{literal_lists}
use Rattle.unit_propagation.specs.Watching.{entries, IsWatched}
use Rattle.unit_propagation.proofs.watches.Watches.over.Given as goal

abbrev pub invariant-loop : goal.invariant-loop
invariant-loop l = record {
  watched : IsWatched (literal_lists l.clauses.list.items) [] [] (l.variables + 1) l.watches.head l.watches.pairs.items (entries l.watches.lists.items) l.watches.pending.items;
  known : length l.watches.pairs.items ≡ l.counter;
}
