use Rattle.std.proofs.Common.{◌≡◌}
use Rattle.one_table.specs.Candidates.{by_number}
use Rattle.one_table.proofs.pairs.by_number.Given as goal

abbrev pub invariant-loop-number : goal.invariant-loop-number
invariant-loop-number l = l.list.items ≡ by_number l.number
