use Rattle.std.proofs.Common.{◌≡◌, List, ◌++◌, flat_map, true, false, get_or, take, sym, ap, ◌∙◌, subst, append-nil}
use Rattle.rvt_tree.specs.declared.places.Place.{Place}
use Rattle.call_cycles.specs.declared.notes.FunctionNotes.{FunctionNotes}
use Rattle.typing_base.specs.declared.addresses.Taken.{Taken}
use Rattle.call_cycles.specs.FirstPlaces.{IsFirstOf, local_place}
use Rattle.call_cycles.proofs.CyclePlaces.{cycle_places, exists_in, next_places, all_places, first_address}
use Rattle.call_cycles.proofs.addresses.address_on_cycle.Goals as goal

pub functions-preserved : goal.functions-preserved
functions-preserved c =
    let n = c.functions.number in
    let flags = c.in_ok-flags.flags.items in
    let functions = c.args.functions.now in
    let notes = c.index-functions-number.result in
    let before = cycle_places (take n flags) (take n functions) in
    let taken : (get_or functions n notes).taken.now ≡ notes.taken.now = ap (λ (w : FunctionNotes). w.taken.now) (sym c.index-functions-number.is) in
    let flag : true ≡ get_or flags n true = subst (λ b. b ≡ get_or flags n b) c.if-not-index.false c.index.ensures in
    let next = next_places flags functions n true notes c.in_ok-flags.ensures.length c.functions-test.true flag c.index-functions-number.is in
    let more : IsFirstOf (before ++ flat_map local_place notes.taken.now) c.with_addresses-first.result =
    subst (λ (l : List Taken). IsFirstOf (before ++ flat_map local_place l) c.with_addresses-first.result) taken (c.with_addresses-first.ensures before c.functions.invariant)
    in
    subst (λ (ps : List Place). IsFirstOf ps c.with_addresses-first.result) (sym next) more

pub functions-preserved-then-not-index : goal.functions-preserved-then-not-index
functions-preserved-then-not-index c =
    let n = c.functions.number in
    let flags = c.in_ok-flags.flags.items in
    let functions = c.args.functions.now in
    let before = cycle_places (take n flags) (take n functions) in
    let flag : false ≡ get_or flags n false = subst (λ b. b ≡ get_or flags n b) c.if-not-index.true c.index.ensures in
    let notes = exists_in functions n c.functions-test.true in
    let next = next_places flags functions n false notes.0 c.in_ok-flags.ensures.length c.functions-test.true flag notes.1 in
    subst (λ (ps : List Place). IsFirstOf ps c.functions.first) (sym (next ∙ append-nil before)) c.functions.invariant

pub returns : goal.returns
returns c entries same =
    let flags = c.in_ok-flags.flags.items in
    let functions = c.args.functions.now in
    let whole = all_places flags functions c.functions.number c.in_ok-flags.ensures.length c.functions-test.false in
    first_address flags functions c.in_ok-flags.ensures.cycles entries same c.functions.first (subst (λ (ps : List Place). IsFirstOf ps c.functions.first) whole c.functions.invariant)
