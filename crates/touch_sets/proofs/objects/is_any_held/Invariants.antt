use Rattle.std.proofs.Common.{◌≡◌, drop}
use Rattle.touch_sets.specs.Bodies.{any_held}
use Rattle.touch_sets.proofs.objects.is_any_held.Given as goal

abbrev pub invariant-types : goal.invariant-types
invariant-types l = any_held l.held (drop l.pointee-index l.types) ≡ any_held l.held l.types
