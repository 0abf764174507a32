use Rattle.std.proofs.Common.{◌≡◌}
use Rattle.joint_programs.specs.Pairings.{by_number}
use Rattle.joint_programs.proofs.pairings.by_number.Given as goal

abbrev pub invariant-loop-number : goal.invariant-loop-number
invariant-loop-number l = l.pairs.items ≡ by_number l.number
