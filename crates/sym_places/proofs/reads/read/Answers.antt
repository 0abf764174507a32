use Rattle.sym_places.proofs.Picks.{spot_suits, read_made}
use Rattle.sym_places.proofs.There.{store_later, traps_later, registers_there}
use Rattle.sym_places.proofs.reads.read.Goals as goal

pub aims_of-requires : goal.aims_of-requires
aims_of-requires c = record { registers_are_there = registers_there _ _ _ c.registers.ensures c.requires.store_is_there }

pub pick-requires-clause-suits : goal.pick-requires-clause-suits
pick-requires-clause-suits c = rw c.deref.ensures.value (spot_suits _ _ _ _ _ _ _ _ _ c.requires.objects_fit c.requires.store_is_laid c.requires.spot_fits c.in_ok-aims.ensures.built)

pub pick-requires-clause-aims_are_there : goal.pick-requires-clause-aims_are_there
pick-requires-clause-aims_are_there c = rw c.deref.ensures.value c.in_ok-aims.ensures.aims_there

pub pick-requires-clause-store_is_there : goal.pick-requires-clause-store_is_there
pick-requires-clause-store_is_there c = store_later _ _ _ c.in_ok-aims.ensures.grows c.requires.store_is_there

pub returns-clause-built : goal.returns-clause-built
returns-clause-built c = read_made _ _ _ _ _ _ _ _ _ _ c.registers.ensures c.in_ok-aims.ensures.built c.deref.ensures.value c.in_ok-value.ensures.built

pub returns-clause-traps_there : goal.returns-clause-traps_there
returns-clause-traps_there c = traps_later _ _ _ c.in_ok-value.ensures.grows c.in_ok-aims.ensures.traps_there
