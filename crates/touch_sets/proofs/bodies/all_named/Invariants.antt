use Rattle.std.proofs.Common.{◌≡◌, ◌++◌, drop, map}
use Rattle.touch_sets.specs.Bodies.{unit_objects, unit_types, names_of, types_of}
use Rattle.touch_sets.proofs.bodies.all_named.Given as goal

abbrev pub invariant-units : goal.invariant-units
invariant-units l = (map names_of l.all.items ++ map unit_objects (drop l.unit-index l.core.units) ≡ map unit_objects l.core.units) × (map types_of l.all.items ++ map unit_types (drop l.unit-index l.core.units) ≡ map unit_types l.core.units)
