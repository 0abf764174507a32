use Rattle.std.proofs.Common.{◌<◌, length, sym, ◌∙◌, get_or}
use Rattle.bit_words.proofs.WordValues.{some_nodes}
use Rattle.sym_places.proofs.Picks.{aim_alike, picking_first, picking_more, picking_all, picked_none, no_aims, some_aims}
use Rattle.sym_places.proofs.There.{aims_at, zero_is_there, held_is_there}
use Rattle.sym_places.proofs.reads.pick.Goals as goal

pub returns-then-is_empty-clause-built : goal.returns-then-is_empty-clause-built
returns-then-is_empty-clause-built c = picked_none c.args.objects.now c.args.store.now c.args.shape _ c.args.aims.now _ (no_aims _ (sym c.if-is_empty.true ∙ c.is_empty.ensures)) c.in_ok-zero.ensures

pub returns-then-is_empty-clause-there : goal.returns-then-is_empty-clause-there
returns-then-is_empty-clause-there c = zero_is_there _ _ _ (some_nodes _ c.nodes-count.ensures.circuit) c.in_ok-zero.ensures

pub loop-at-init : goal.loop-at-init
loop-at-init c =
    let some : 0 < length c.args.aims.now = some_aims _ (sym c.if-is_empty.false ∙ c.is_empty.ensures) in
    picking_first c.args.objects.now c.args.store.now c.args.shape _ c.args.aims.now _ _ some c.in_ok-value.ensures c.requires.suits c.requires.store_is_there (some_nodes _ c.nodes-count.ensures.circuit)

pub merge_value-requires-clause-which_is_there : goal.merge_value-requires-clause-which_is_there
merge_value-requires-clause-which_is_there c = aims_at _ _ _ _ _ c.loop-at.invariant.grows c.requires.aims_are_there c.loop-at-test.true

pub merge_value-requires-clause-first_is_there : goal.merge_value-requires-clause-first_is_there
merge_value-requires-clause-first_is_there c = held_is_there _ _ c.args.objects.now c.args.store.now (get_or c.args.aims.now c.loop-at.at _).target _ (some_nodes _ c.nodes-count.ensures.circuit) c.loop-at.invariant.grows c.requires.store_is_there c.in_ok-here.ensures

pub merge_value-requires-clause-second_is_there : goal.merge_value-requires-clause-second_is_there
merge_value-requires-clause-second_is_there c = c.loop-at.invariant.there

pub merge_value-requires-clause-alike : goal.merge_value-requires-clause-alike
merge_value-requires-clause-alike c = aim_alike c.args.objects.now c.args.store.now c.args.shape c.args.aims.now c.loop-at.at _ _ _ c.requires.suits c.loop-at-test.true c.in_ok-here.ensures c.loop-at.invariant.laid

pub loop-at-preserved : goal.loop-at-preserved
loop-at-preserved c =
    picking_more c.args.objects.now c.args.store.now c.args.shape _ _ _ _ _ _ c.args.aims.now c.loop-at.at _ c.loop-at.invariant c.loop-at-test.true c.requires.suits c.in_ok-here.ensures c.in_ok-next.ensures.built c.in_ok-next.ensures.there c.in_ok-next.ensures.grows

pub returns-clause-built : goal.returns-clause-built
returns-clause-built c = picking_all c.args.objects.now c.args.store.now c.args.shape _ _ _ c.args.aims.now _ c.loop-at.invariant c.loop-at-test.false

pub returns-clause-there : goal.returns-clause-there
returns-clause-there c = c.loop-at.invariant.there

pub returns-clause-grows : goal.returns-clause-grows
returns-clause-grows c = c.loop-at.invariant.grows

pub returns-in_err-here-clause-grows : goal.returns-in_err-here-clause-grows
returns-in_err-here-clause-grows c = c.loop-at.invariant.grows
