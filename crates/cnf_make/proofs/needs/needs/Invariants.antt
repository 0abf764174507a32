use Rattle.std.proofs.Common.{◌≡◌, ◌≤◌, length}
use Rattle.cnf_make.specs.Needed.{spread_below, needed}
use Rattle.cnf_make.proofs.needs.needs.Given as goal

abbrev pub invariant-down : goal.invariant-down
invariant-down l = record {
  marks : spread_below l.circuit l.node l.marks.items ≡ needed l.fn.circuit l.fn.bad;
  size : length l.marks.items ≡ length l.circuit;
  node : l.node ≤ length l.circuit;
}

abbrev pub decreases-down : goal.decreases-down
decreases-down l = l.node
