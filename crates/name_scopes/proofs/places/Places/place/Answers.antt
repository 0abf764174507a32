use Rattle.std.proofs.Common.{sym, ◌∙◌, ap, List, ℕ, arith, ◌<◌, length}
use Rattle.std.specs.Prelude.{reverse}
use Rattle.std.proofs.lemmas.List.{get_or_read}
use Rattle.name_scopes.specs.Places.{place_of}
use Rattle.name_scopes.proofs.PlaceLemmas.{place_found, place_missing}
use Rattle.name_scopes.proofs.places.Places.place.Goals as goal

pub returns-in-Some : goal.returns-in-Some
returns-in-Some c =
    let number = c.in-Some.number in
    let last = c.self.inside.last.items in
    let below = c.in-Some.ensures.found.0 in
    let room = c.self.invariant.room in
    let within : number < length last = omega (arith, below, room) in
    get_or_read last number c.index.result.now within c.index.ensures 0
    ∙ c.self.invariant.places number
    ∙ sym (place_found c.self.inside.texts c.args.name.now number (reverse c.self.inside.bindings.items) c.find.ensures.different c.in-Some.ensures.found c.self.invariant.chained)
    ∙ ap (λ (ns : List (List ℕ)). place_of ns c.args.name.now) c.self.view_is

pub returns-in-None : goal.returns-in-None
returns-in-None c =
    place_missing c.self.inside.texts c.args.name.now (reverse c.self.inside.bindings.items) c.in-None.ensures.found c.self.invariant.chained
    ∙ ap (λ (ns : List (List ℕ)). place_of ns c.args.name.now) c.self.view_is
