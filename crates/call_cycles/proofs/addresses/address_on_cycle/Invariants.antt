use Rattle.std.proofs.Common.{take}
use Rattle.call_cycles.specs.FirstPlaces.{IsFirstOf}
use Rattle.call_cycles.proofs.CyclePlaces.{cycle_places}
use Rattle.call_cycles.proofs.addresses.address_on_cycle.Given as goal

abbrev pub invariant-functions : goal.invariant-functions
invariant-functions l = IsFirstOf (cycle_places (take l.number l.flags.items) (take l.number l.functions)) l.first
