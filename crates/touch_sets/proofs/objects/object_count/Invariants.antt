use Rattle.std.proofs.Common.{◌≡◌, ◌<◌, ◌≤◌, ℕ, Some}
use Rattle.std.specs.Prelude.{slice_get}
use Rattle.core_ir.specs.Calls.{Among}
use Rattle.touch_sets.specs.declared.bodies.Named.{Named}
use Rattle.touch_sets.proofs.objects.object_count.Given as goal

abbrev pub invariant-bodies : goal.invariant-bodies
invariant-bodies l = (l.table ≤ l.count) × ((u : ℕ) (named : Named) → u < l.named-index → slice_get l.all u ≡ Some named → (o : ℕ) → Among o named.objects.items → o < l.count)
