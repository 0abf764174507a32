use Rattle.std.proofs.Common.{◌≡◌, ◌∷◌, ◌++◌, [], None, ◌∙◌, ap}
use Rattle.c_lexer.specs.Defines.{defined_as}
use Rattle.c_lexer.proofs.DefineLemmas.{shown, new_last}
use Rattle.c_lexer.proofs.defines.Defines.add.Goals as goal

pub returns-in-Ok : goal.returns-in-Ok
returns-in-Ok c =
    let name = c.args.name in
    let none : defined_as (shown c.self.inside.bodies.entries) name.now ≡ None = ap (λ ds. defined_as ds name.now) c.self.view_is ∙ c.requires.new in
    record { added = ap shown c.in-Ok.ensures.entries ∙ new_last name c.args.body c.self.inside.bodies.entries none ∙ ap (λ ds. ds ++ record { name = name.now; body = c.args.body.items } ∷ []) c.self.view_is }
