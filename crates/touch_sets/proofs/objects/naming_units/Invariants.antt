use Rattle.std.proofs.Common.{◌≡◌, ◌++◌, drop, map}
use Rattle.touch_sets.specs.Bodies.{names_object}
use Rattle.touch_sets.proofs.objects.naming_units.Given as goal

abbrev pub invariant-bodies : goal.invariant-bodies
invariant-bodies l = l.units.items ++ map (names_object l.held l.object) (drop l.named-index l.all) ≡ map (names_object l.held l.object) l.all
