use Rattle.name_scopes.proofs.TextLemmas.{nothing_more, stands_among}
use Rattle.name_scopes.proofs.texts.Texts.number.Goals as goal

pub returns-in-Some-clause-added : goal.returns-in-Some-clause-added
returns-in-Some-clause-added c = nothing_more c.args.name.now c.args.self.now (stands_among c.args.name.now c.args.self.now c.in-Some.number c.in-Some.ensures.found)
