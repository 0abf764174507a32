use Rattle.std.proofs.Common.{arith}
use Rattle.aig_build.proofs.Nodes.{Grows-length}
use Rattle.bit_words.proofs.RippleCarry.{AreThere-later}
use Rattle.sym_places.proofs.Puts.{spot_takes, write_made}
use Rattle.sym_places.proofs.There.{store_later, traps_later, registers_there}
use Rattle.sym_places.proofs.writes.write.Goals as goal

pub aims_of-requires : goal.aims_of-requires
aims_of-requires c = record { registers_are_there = registers_there _ _ _ c.registers.ensures c.requires.store_is_there }

pub put-requires-clause-takes : goal.put-requires-clause-takes
put-requires-clause-takes c = rw c.deref.ensures.value (spot_takes _ c.args.guard _ _ _ _ _ _ _ c.requires.objects_fit c.requires.store_is_laid c.requires.value_fits c.in_ok-aims.ensures.built)

pub put-requires-clause-aims_are_there : goal.put-requires-clause-aims_are_there
put-requires-clause-aims_are_there c = rw c.deref.ensures.value c.in_ok-aims.ensures.aims_there

pub put-requires-clause-store_is_there : goal.put-requires-clause-store_is_there
put-requires-clause-store_is_there c = store_later _ _ _ c.in_ok-aims.ensures.grows c.requires.store_is_there

pub put-requires-clause-value_is_there : goal.put-requires-clause-value_is_there
put-requires-clause-value_is_there c = AreThere-later _ _ _ c.in_ok-aims.ensures.grows c.requires.value_is_there

pub put-requires-clause-guard_is_there : goal.put-requires-clause-guard_is_there
put-requires-clause-guard_is_there c = let g = c.requires.guard_is_there in omega (arith, g, Grows-length _ _ c.in_ok-aims.ensures.grows)

pub returns-clause-built : goal.returns-clause-built
returns-clause-built c = write_made _ _ _ _ _ _ _ _ _ _ _ c.registers.ensures c.in_ok-aims.ensures.built c.deref.ensures.value c.in_ok-put.ensures.built

pub returns-clause-traps_there : goal.returns-clause-traps_there
returns-clause-traps_there c = traps_later _ _ _ c.in_ok-put.ensures.grows c.in_ok-aims.ensures.traps_there
