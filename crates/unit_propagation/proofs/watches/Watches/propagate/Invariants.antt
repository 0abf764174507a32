use Rattle.std.proofs.Common.{◌≡◌, ◌++◌, ◌-◌, length}
use Rattle.clause_db.specs.Log.{literal_lists, results}
use Rattle.unit_propagation.specs.Quiet.{HasReasons}
use Rattle.unit_propagation.specs.Status.{Extends}
use Rattle.unit_propagation.specs.Watching.{entries, IsWatched}
use Rattle.unit_propagation.specs.Settling.{PendingHold}
use Rattle.unit_propagation.proofs.watches.Watches.propagate.Given as goal

abbrev pub invariant-queue : goal.invariant-queue
invariant-queue l = record {
  extends : Extends l.fn.trail.literals.items l.trail.literals.items;
  starts : l.trail.starts.items ≡ l.fn.trail.starts.items;
  variables : length l.trail.places.items ≡ length l.fn.trail.places.items;
  reasons : HasReasons (literal_lists l.clauses.list.items ++ results l.lines) l.trail.literals.items l.trail.starts.items l.trail.reasons.items;
  known : length l.self.pairs.items ≡ length l.fn.self.pairs.items;
  watched : IsWatched (literal_lists l.clauses.list.items ++ results l.lines) l.trail.literals.items l.trail.starts.items (length l.trail.places.items) l.self.head l.self.pairs.items (entries l.self.lists.items) l.self.pending.items;
  pending : PendingHold (literal_lists l.clauses.list.items ++ results l.lines) l.trail.literals.items l.self.pairs.items l.self.pending.items;
}

abbrev pub decreases-queue : goal.decreases-queue
decreases-queue l = length l.trail.places.items - l.self.head
