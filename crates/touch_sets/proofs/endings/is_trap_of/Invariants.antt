use Rattle.std.proofs.Common.{◌≡◌, drop}
use Rattle.touch_sets.specs.Bodies.{has_trap}
use Rattle.touch_sets.proofs.endings.is_trap_of.Given as goal

abbrev pub invariant-traps : goal.invariant-traps
invariant-traps l = has_trap l.trap (drop l.other-index l.traps) ≡ has_trap l.trap l.traps
