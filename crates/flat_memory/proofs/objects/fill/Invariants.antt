use Rattle.std.proofs.Common.{◌≡◌, ◌++◌, drop, take}
use Rattle.flat_memory.proofs.objects.fill.Given as goal

abbrev pub invariant-loop-at : goal.invariant-loop-at
invariant-loop-at l = l.stack ≡ take l.at l.values ++ drop l.at l.initial.stack
