use Rattle.std.proofs.Common.{◌≡◌, Some, None, sym, ◌∙◌, ap}
use Rattle.std.specs.Prelude.{option_map}
use Rattle.c_lexer.specs.Defines.{defined_as}
use Rattle.c_lexer.proofs.DefineLemmas.{defined_shown}
use Rattle.c_lexer.proofs.defines.Defines.body.Goals as goal

pub returns-in-Some : goal.returns-in-Some
returns-in-Some c =
    ap Some c.as_slice.ensures.value ∙ ap (option_map (λ v. v.items)) c.in-Some.ensures.value ∙ defined_shown c.args.text.now c.self.inside.bodies.entries
    ∙ ap (λ ds. defined_as ds c.args.text.now) c.self.view_is

pub returns-in-None : goal.returns-in-None
returns-in-None c =
    ap (option_map (λ v. v.items)) c.in-None.ensures.value ∙ defined_shown c.args.text.now c.self.inside.bodies.entries ∙ ap (λ ds. defined_as ds c.args.text.now) c.self.view_is
