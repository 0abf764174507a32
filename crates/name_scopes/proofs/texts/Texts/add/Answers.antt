use Rattle.std.proofs.Common.{◌∙◌, ap, subst}
use Rattle.std.specs.Prelude.{List, ℕ}
use Rattle.name_scopes.specs.Texts.{with_text, StandsAt}
use Rattle.name_scopes.proofs.TextLemmas.{shown, added_shown, stored_at}
use Rattle.name_scopes.proofs.texts.Texts.add.Goals as goal

pub returns-clause-number : goal.returns-clause-number
returns-clause-number c =
    let number = c.in_ok-number.number in
    let keys = c.insert_full.new.self.keys in
    let stored = c.in_ok-number.ensures.stored in
    subst (StandsAt (shown keys) number) c.in_ok-text.ensures.items (stored_at c.in_ok-text.text.items keys number stored.0 c.in_ok-number.ensures.within stored.1 stored.2)

pub returns-clause-added : goal.returns-clause-added
returns-clause-added c =
    ap shown c.in_ok-number.ensures.keys ∙ added_shown c.in_ok-text.text c.self.inside.texts.keys
    ∙ ap (with_text (shown c.self.inside.texts.keys)) c.in_ok-text.ensures.items
    ∙ ap (λ (ts : List (List ℕ)). with_text ts c.args.name.now) c.self.view_is
