use Rattle.std.proofs.Common.{◌≡◌, drop}
use Rattle.core_ir.specs.Cells.{has}
use Rattle.touch_sets.proofs.objects.stands_in.Given as goal

abbrev pub invariant-numbers : goal.invariant-numbers
invariant-numbers l = has l.number (drop l.other-index l.numbers) ≡ has l.number l.numbers
