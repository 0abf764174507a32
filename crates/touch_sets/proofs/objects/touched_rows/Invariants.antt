use Rattle.std.proofs.Common.{◌≡◌, ◌↔◌, ◌<◌, ℕ, true, length}
use Rattle.touch_sets.specs.Sets.{Touches}
use Rattle.touch_sets.specs.Touching.{side_of, flag, flag_rows}
use Rattle.touch_sets.proofs.objects.touched_rows.Given as goal

abbrev pub invariant-objects : goal.invariant-objects
invariant-objects l = (length l.touched.items ≡ l.object) × ((u o : ℕ) → (flag (flag_rows l.touched.items) o u ≡ true) ↔ ((o < l.object) × Touches l.core (side_of l.old_side) u o))
