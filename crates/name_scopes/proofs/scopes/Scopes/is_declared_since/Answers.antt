use Rattle.std.proofs.Common.{◌∙◌, ap, length, ◌-◌, take}
use Rattle.std.specs.Prelude.{reverse, nat_lt}
use Rattle.std.proofs.lemmas.List.{length-reverse}
use Rattle.name_scopes.proofs.ScopeLemmas.{since, has}
use Rattle.name_scopes.proofs.scopes.Scopes.is_declared_since.Goals as goal

pub returns : goal.returns
returns g c =
    let names = c.self.inside.places in
    let values = reverse c.self.inside.values.items in
    let name = c.args.name.now in
    let height = c.args.height in
    ap (nat_lt height) c.place.ensures
    ∙ since names values name height (length-reverse c.self.inside.values.items ∙ c.self.invariant)
    ∙ ap (λ bindings. has name (take (length bindings - height) bindings)) c.self.view_is
