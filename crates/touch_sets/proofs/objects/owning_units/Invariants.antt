use Rattle.std.proofs.Common.{◌≡◌, ◌++◌, drop, map}
use Rattle.core_ir.specs.Cells.{has}
use Rattle.core_ir.specs.declared.units.Unit.{Unit}
use Rattle.touch_sets.proofs.objects.owning_units.Given as goal

abbrev pub invariant-units : goal.invariant-units
invariant-units l = l.units.items ++ map (λ (w : Unit). has l.object w.owned) (drop l.unit-index l.core.units) ≡ map (λ (w : Unit). has l.object w.owned) l.core.units
