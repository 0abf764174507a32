use Rattle.std.proofs.Common.{sym, ◌∙◌, ap, length}
use Rattle.std.specs.Prelude.{reverse}
use Rattle.std.proofs.lemmas.List.{length-reverse}
use Rattle.name_scopes.proofs.ScopeLemmas.{long_bound}
use Rattle.name_scopes.proofs.scopes.Scopes.height.Goals as goal

pub returns : goal.returns
returns g c =
    let values = reverse c.self.inside.values.items in
    let same = length-reverse c.self.inside.values.items ∙ c.self.invariant in
    c.len.ensures ∙ sym same ∙ sym (long_bound c.self.inside.places values same) ∙ ap length c.self.view_is
