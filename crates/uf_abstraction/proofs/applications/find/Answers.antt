use Rattle.std.proofs.Common.{◌∙◌, ap}
use Rattle.uf_abstraction.proofs.Questions.{answer_in, found_first}
use Rattle.uf_abstraction.proofs.applications.find.Goals as goal

pub returns-in-None : goal.returns-in-None
returns-in-None c = ap answer_in c.in-None.ensures.value ∙ found_first c.args.question.now c.args.made.now.entries c.requires.asked

pub returns-in-Some : goal.returns-in-Some
returns-in-Some c = ap answer_in c.in-Some.ensures.value ∙ found_first c.args.question.now c.args.made.now.entries c.requires.asked
