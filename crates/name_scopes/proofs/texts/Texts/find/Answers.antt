use Rattle.std.proofs.Common.{sym, ◌∙◌, ap, subst}
use Rattle.std.specs.List.{list_any}
use Rattle.std.specs.Str.{bytes_eq}
use Rattle.name_scopes.specs.Texts.{StandsAt, AreDifferent}
use Rattle.name_scopes.proofs.TextLemmas.{shown, number_shown, any_shown, found_at, different_shown}
use Rattle.name_scopes.proofs.texts.Texts.find.Goals as goal

pub returns-in-Some-clause-found : goal.returns-in-Some-clause-found
returns-in-Some-clause-found c =
    subst (λ ts. StandsAt ts c.in-Some.number c.args.name.now) c.self.view_is
    (found_at c.args.name.now (shown c.self.inside.texts.keys) c.in-Some.number (c.in-Some.ensures.index ∙ number_shown (bytes_eq c.args.name.now) c.self.inside.texts.keys))

pub returns-in-None-clause-found : goal.returns-in-None-clause-found
returns-in-None-clause-found c =
    sym (ap (list_any (bytes_eq c.args.name.now)) c.self.view_is) ∙ sym (any_shown (bytes_eq c.args.name.now) c.self.inside.texts.keys) ∙ sym c.in-None.ensures.found

pub returns-in-Some-clause-different : goal.returns-in-Some-clause-different
returns-in-Some-clause-different c = subst AreDifferent c.self.view_is (different_shown c.self.inside.texts.keys c.len-count.ensures.unique)

pub returns-in-None-clause-different : goal.returns-in-None-clause-different
returns-in-None-clause-different c = subst AreDifferent c.self.view_is (different_shown c.self.inside.texts.keys c.len-count.ensures.unique)
