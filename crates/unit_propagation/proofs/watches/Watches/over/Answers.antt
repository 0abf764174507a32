use Rattle.std.proofs.Common.{arith, ◌<◌, ◌+◌, [], length, length-append}
use Rattle.clause_db.specs.Log.{literal_lists}
use Rattle.unit_propagation.specs.Watching.{entries}
use Rattle.unit_propagation.proofs.Tables.{literal_lists_length}
use Rattle.unit_propagation.proofs.Watchings.{watched_add}
use Rattle.unit_propagation.proofs.watches.Watches.over.Goals as goal

pub loop-preserved : goal.loop-preserved
loop-preserved c =
    let e = c.in_ok-add.ensures in
    let i = c.loop.invariant in
    let old = c.loop.watches in
    let long = literal_lists_length c.args.clauses.now.list.items in
    let low : length old.pairs.items < length (literal_lists c.args.clauses.now.list.items) = omega (arith, i.known, c.loop-test.true, c.len-end.ensures, c.args.clauses.now.list.ok.0, long) in
    rw (e.pairs, e.pending, e.lists, e.head) record {
      watched = watched_add (literal_lists c.args.clauses.now.list.items) [] [] (c.args.variables + 1) old.head old.pairs.items (entries old.lists.items) old.pending.items low i.watched;
      known = simp length-append (omega (arith, i.known));
    }
