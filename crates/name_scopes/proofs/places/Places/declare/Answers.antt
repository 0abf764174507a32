use Rattle.std.proofs.Common.{◌<◌, ◌∷◌, List, ℕ, length, ◌∙◌, ap, refl, arith}
use Rattle.std.proofs.lemmas.List.{get_or_read}
use Rattle.name_scopes.proofs.PlaceLemmas.{linked_again, linked_pushed, names_again, declared, on_err}
use Rattle.name_scopes.proofs.places.Places.declare.Goals as goal

pub invariant_of-self-in_err-place : goal.invariant_of-self-in_err-place
invariant_of-self-in_err-place c =
    let room = c.in_ok-make_room.ensures in
    linked_again c.self.inside.texts c.number.new.self c.args.name.now c.self.inside.last.items c.make_room.new.last.items c.self.inside.bindings.items c.add.new.bindings.items c.len.result
    c.in_ok-number.ensures.added c.self.invariant c.len.ensures room.room room.same c.in_err-place.ensures.unchanged

pub returns-in_err-place-clause-unchanged : goal.returns-in_err-place-clause-unchanged
returns-in_err-place-clause-unchanged c =
    on_err c.from_residual-in_err-place.result (names_again c.self.inside.texts c.number.new.self c.args.name.now c.self.inside.bindings.items c.add.new.bindings.items
    c.in_ok-number.ensures.added c.self.invariant.chained c.in_err-place.ensures.unchanged ∙ c.self.view_is)

pub invariant_of-self-2 : goal.invariant_of-self-2
invariant_of-self-2 c =
    let last = c.make_room.new.last.items in
    let items = c.self.inside.bindings.items in
    let number = c.in_ok-number.number in
    let room = c.in_ok-make_room.ensures in
    let again = linked_again c.self.inside.texts c.number.new.self c.args.name.now c.self.inside.last.items last items items c.len.result
    c.in_ok-number.ensures.added c.self.invariant c.len.ensures room.room room.same refl in
    let below = c.in_ok-number.ensures.number.0 in
    let linked = again.room in
    let within : number < length last = omega (arith, below, linked) in
    linked_pushed c.number.new.self last items c.add.new.bindings.items number c.index-hidden.result.now c.in_ok-place.place again below
    (get_or_read last number c.index-hidden.result.now within c.index-hidden.ensures 0) c.in_ok-place.ensures.place c.in_ok-place.ensures.added

pub returns-clause-declared : goal.returns-clause-declared
returns-clause-declared c =
    declared c.self.inside.texts c.number.new.self c.args.name.now c.in_ok-number.number c.index-hidden.result.now c.self.inside.bindings.items c.add.new.bindings.items
    c.in_ok-number.ensures.added c.in_ok-number.ensures.number c.self.invariant.chained c.in_ok-place.ensures.added
    ∙ ap (λ (ns : List (List ℕ)). c.args.name.now ∷ ns) c.self.view_is
