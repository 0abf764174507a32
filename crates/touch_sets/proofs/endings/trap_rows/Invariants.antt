use Rattle.std.proofs.Common.{◌≡◌, ◌↔◌, ◌<◌, ℕ, true, length}
use Rattle.rvt_num.specs.declared.values.Trap.{Trap}
use Rattle.touch_sets.specs.Sets.{MayTrap}
use Rattle.touch_sets.specs.Touching.{side_of, flag, flag_rows, trap_number}
use Rattle.touch_sets.proofs.endings.trap_rows.Given as goal

abbrev pub invariant-traps : goal.invariant-traps
invariant-traps l = (length l.traps.items ≡ l.number) × ((u : ℕ) (t : Trap) → trap_number t < l.number → (flag (flag_rows l.traps.items) (trap_number t) u ≡ true) ↔ MayTrap l.core (side_of l.old_side) u t)
