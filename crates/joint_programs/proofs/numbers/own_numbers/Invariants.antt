use Rattle.std.proofs.Common.{◌≡◌}
use Rattle.joint_programs.specs.Numbers.{numbers_below}
use Rattle.joint_programs.proofs.numbers.own_numbers.Given as goal

abbrev pub invariant-loop-number : goal.invariant-loop-number
invariant-loop-number l = l.numbers.items ≡ numbers_below l.number
