use Rattle.std.proofs.Common.{◌≡◌, ◌++◌, ◌-◌, length}
use Rattle.clause_db.specs.Log.{literal_lists, results}
use Rattle.unit_propagation.specs.Quiet.{HasReasons}
use Rattle.unit_propagation.specs.Status.{Extends}
use Rattle.unit_propagation.specs.Watching.{entries, watching}
use Rattle.unit_propagation.specs.Visiting.{IsVisiting}
use Rattle.unit_propagation.proofs.visits.visit_all.Given as goal

abbrev pub invariant-entries : goal.invariant-entries
invariant-entries l = record {
  extends : Extends l.fn.trail.literals.items l.trail.literals.items;
  starts : l.trail.starts.items ≡ l.fn.trail.starts.items;
  variables : length l.trail.places.items ≡ length l.fn.trail.places.items;
  reasons : HasReasons (literal_lists l.clauses.list.items ++ results l.lines) l.trail.literals.items l.trail.starts.items l.trail.reasons.items;
  head : l.watches.head ≡ l.fn.watches.head;
  pending : l.watches.pending.items ≡ l.fn.watches.pending.items;
  known : length l.watches.pairs.items ≡ length l.fn.watches.pairs.items;
  visiting : IsVisiting (literal_lists l.clauses.list.items ++ results l.lines) l.trail.literals.items l.trail.starts.items (length l.trail.places.items) l.watches.head l.falsified l.place l.watches.pairs.items (entries l.watches.lists.items) l.watches.pending.items;
}

abbrev pub decreases-entries : goal.decreases-entries
decreases-entries l = length (watching (entries l.watches.lists.items) l.falsified) - l.place
