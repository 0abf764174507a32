use Rattle.std.proofs.Common.{◌≤◌, length}
use Rattle.refutation_check.specs.Distinct.{HaveSameLiterals}
use Rattle.refutation_check.proofs.orders.order_of.Given as goal

abbrev pub invariant-literals : goal.invariant-literals
invariant-literals l = record {
  behind : l.place ≤ l.end;
  within : l.end ≤ length l.order.literals.items;
  same : HaveSameLiterals l.clause.literals.items l.order.literals.items;
}

abbrev pub decreases-literals : goal.decreases-literals
decreases-literals l = l.place
