use Rattle.std.proofs.Common.{take}
use Rattle.loop_interfaces.specs.NameOrder.{AreOthers}
use Rattle.loop_interfaces.proofs.interfaces.others.Given as goal

abbrev pub invariant-loop-number : goal.invariant-loop-number
invariant-loop-number l = AreOthers l.others.items (take l.number-index l.numbers) l.rising
