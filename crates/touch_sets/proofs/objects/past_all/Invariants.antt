use Rattle.std.proofs.Common.{◌<◌, ◌≤◌, ℕ, take}
use Rattle.core_ir.specs.Calls.{Among}
use Rattle.touch_sets.proofs.objects.past_all.Given as goal

abbrev pub invariant-objects : goal.invariant-objects
invariant-objects l = (l.count ≤ l.past) × ((o : ℕ) → Among o (take l.object-index l.objects) → o < l.past)
