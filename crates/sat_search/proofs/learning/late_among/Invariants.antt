use Rattle.std.proofs.Common.{◌≤◌}
use Rattle.sat_search.proofs.learning.late_among.Given as goal

abbrev pub invariant-loop-index : goal.invariant-loop-index
invariant-loop-index l = l.late ≤ l.index
