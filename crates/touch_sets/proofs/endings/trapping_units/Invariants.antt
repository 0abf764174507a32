use Rattle.std.proofs.Common.{◌≡◌, ◌++◌, drop, map}
use Rattle.core_ir.specs.declared.units.Unit.{Unit}
use Rattle.touch_sets.specs.Bodies.{has_trap}
use Rattle.touch_sets.proofs.endings.trapping_units.Given as goal

abbrev pub invariant-units : goal.invariant-units
invariant-units l = l.units.items ++ map (λ (w : Unit). has_trap l.trap w.own_traps) (drop l.unit-index l.core.units) ≡ map (λ (w : Unit). has_trap l.trap w.own_traps) l.core.units
