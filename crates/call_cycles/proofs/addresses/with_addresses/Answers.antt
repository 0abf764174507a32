use Rattle.std.proofs.Common.{List, ◌++◌, flat_map, subst}
use Rattle.std.proofs.lemmas.List.{take_all}
use Rattle.rvt_tree.specs.declared.places.Place.{Place}
use Rattle.typing_base.specs.declared.addresses.Taken.{Taken}
use Rattle.call_cycles.specs.FirstPlaces.{IsFirstOf, local_place}
use Rattle.call_cycles.proofs.Elements.{flat_map_next}
use Rattle.call_cycles.proofs.addresses.with_addresses.Goals as goal

pub taken-preserved : goal.taken-preserved
taken-preserved c places old =
    subst (λ (ps : List Place). IsFirstOf ps c.with_address-first.result) (flat_map_next local_place places c.args.taken.now c.taken.one-index _ c.taken-test.true) (c.with_address-first.ensures _ (c.taken.invariant places old))

pub returns : goal.returns
returns c places old =
    subst (λ (l : List Taken). IsFirstOf (places ++ flat_map local_place l) c.taken.first) (take_all c.taken.one-index c.args.taken.now c.taken-test.false) (c.taken.invariant places old)
