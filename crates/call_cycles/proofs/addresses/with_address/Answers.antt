use Rattle.std.proofs.Common.{List, ◌++◌, Some, sym, ap, subst}
use Rattle.rvt_tree.specs.declared.places.Place.{Place}
use Rattle.call_cycles.specs.FirstPlaces.{IsFirstOf, place_for}
use Rattle.call_cycles.proofs.Earliest.{first_among}
use Rattle.call_cycles.proofs.addresses.with_address.Goals as goal

pub returns-in-Some : goal.returns-in-Some
returns-in-Some c places old =
    let place = c.args.taken.now.place in
    let found = first_among places c.in-Some.first place c.earlier.result (subst (IsFirstOf places) c.in-Some.is old) c.earlier.ensures.one c.earlier.ensures.left c.earlier.ensures.right in
    subst (λ (ps : List Place). IsFirstOf (places ++ ps) (Some c.earlier.result)) (sym (ap (place_for place) c.in-Local.is)) found
