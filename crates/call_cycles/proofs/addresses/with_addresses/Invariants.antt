use Rattle.std.proofs.Common.{List, ◌++◌, flat_map, take}
use Rattle.rvt_tree.specs.declared.places.Place.{Place}
use Rattle.call_cycles.specs.FirstPlaces.{IsFirstOf, local_place}
use Rattle.call_cycles.proofs.addresses.with_addresses.Given as goal

abbrev pub invariant-taken : goal.invariant-taken
invariant-taken l = (places : List Place) → IsFirstOf places l.fn.before → IsFirstOf (places ++ flat_map local_place (take l.one-index l.taken)) l.first
