use Rattle.aig_build.proofs.Nodes.{Grows-trans}
use Rattle.bit_words.proofs.RippleCarry.{AreThere-later}
use Rattle.bit_words.proofs.WordValues.{some_nodes}
use Rattle.sym_places.proofs.Puts.{put_alike, one_made}
use Rattle.sym_places.proofs.There.{held_is_there, put_there}
use Rattle.sym_places.proofs.writes.put_one.Goals as goal

pub merge_value-requires-clause-first_is_there : goal.merge_value-requires-clause-first_is_there
merge_value-requires-clause-first_is_there c = AreThere-later _ _ _ c.in_ok-both.ensures.grows c.requires.value_is_there

pub merge_value-requires-clause-second_is_there : goal.merge_value-requires-clause-second_is_there
merge_value-requires-clause-second_is_there c = held_is_there _ _ c.args.objects.now c.args.store.now c.args.aim.target _ (some_nodes _ c.nodes-count.ensures.circuit) c.in_ok-both.ensures.grows c.requires.store_is_there c.in_ok-before.ensures

pub merge_value-requires-clause-alike : goal.merge_value-requires-clause-alike
merge_value-requires-clause-alike c = put_alike c.args.objects.now c.args.guard c.args.value.now c.args.store.now c.args.aim _ c.requires.takes c.in_ok-before.ensures

pub returns-clause-built : goal.returns-clause-built
returns-clause-built c = one_made c.args.objects.now c.args.guard c.args.value.now _ c.args.store.now _ c.args.aim _ _ _ c.in_ok-both.ensures.built c.in_ok-before.ensures c.in_ok-after.ensures.built c.in_ok-set_held.ensures

pub returns-clause-there : goal.returns-clause-there
returns-clause-there c =
    put_there _ _ c.args.objects.now c.args.store.now _ c.args.aim.target c.in_ok-after.after (Grows-trans _ _ _ c.in_ok-both.ensures.grows c.in_ok-after.ensures.grows) c.requires.store_is_there c.in_ok-after.ensures.there c.in_ok-set_held.ensures
