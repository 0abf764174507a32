use Rattle.std.proofs.Common.{◌≡◌, ◌+◌, take}
use Rattle.clause_db.specs.Log.{literal_lists}
use Rattle.cnf_make.specs.Tseitin.{constants_and_inputs, marked_count, clauses_below}
use Rattle.cnf_make.proofs.listing.clauses.Given as goal

abbrev pub invariant-gates : goal.invariant-gates
invariant-gates l = record {
  list : literal_lists l.list.items ≡ clauses_below l.circuit l.marks.items l.node;
  variables : l.variables ≡ constants_and_inputs l.circuit + marked_count (take l.node l.marks.items);
}
