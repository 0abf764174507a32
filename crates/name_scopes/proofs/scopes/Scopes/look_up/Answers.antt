use Rattle.std.proofs.Common.{◌≡◌, suc, ◌-◌, sym, ◌∙◌, ap}
use Rattle.std.specs.Prelude.{reverse, slice_get}
use Rattle.std.proofs.lemmas.List.{length-reverse, reverse-reverse}
use Rattle.name_scopes.specs.Names.{named_in}
use Rattle.name_scopes.specs.Places.{place_of}
use Rattle.name_scopes.proofs.ScopeLemmas.{unnamed, named_at, before}
use Rattle.name_scopes.proofs.scopes.Scopes.look_up.Goals as goal

pub returns-then-place-eq0 : goal.returns-then-place-eq0
returns-then-place-eq0 g c =
    unnamed c.self.inside.places (reverse c.self.inside.values.items) c.args.name.now (sym c.if-place-eq0.true ∙ c.place-place.ensures)
    ∙ ap (λ bindings. named_in bindings c.args.name.now) c.self.view_is

pub returns : goal.returns
returns g c =
    let names = c.self.inside.places in
    let items = c.self.inside.values.items in
    let name = c.args.name.now in
    let place = c.place-place.result in
    let found = c.place-place.ensures in
    let some = c.if-place-eq0.false in
    let next : place_of names name ≡ suc (place - 1) = sym found ∙ before place some in
    c.at.ensures
    ∙ ap (λ values. slice_get values (place - 1)) c.deref.ensures.value
    ∙ sym (ap (λ values. slice_get values (place - 1)) (reverse-reverse items))
    ∙ named_at names (reverse items) name (place - 1) (length-reverse items ∙ c.self.invariant) next
    ∙ ap (λ bindings. named_in bindings name) c.self.view_is
