use Rattle.std.proofs.Common.{◌∙◌, ap, sym, subst}
use Rattle.std.specs.Prelude.{map}
use Rattle.std.specs.List.{AllByRecursion}
use Rattle.uf_abstraction.proofs.Questions.{inserted_last, map_push, asked_push}
use Rattle.uf_abstraction.specs.Names.{application_of, IsAsked}
use Rattle.uf_abstraction.proofs.applications.add.Goals as goal

pub returns-in-Ok-clause-added : goal.returns-in-Ok-clause-added
returns-in-Ok-clause-added c =
    ap (λ es. map application_of es) (c.in-Ok.ensures.entries ∙ inserted_last c.args.question c.args.reply c.args.made.now.entries c.requires.asked c.requires.absent)
    ∙ map_push c.args.made.now.entries (c.args.question, c.args.reply)

pub returns-in-Ok-clause-asked : goal.returns-in-Ok-clause-asked
returns-in-Ok-clause-asked c =
    subst (AllByRecursion IsAsked) (sym (c.in-Ok.ensures.entries ∙ inserted_last c.args.question c.args.reply c.args.made.now.entries c.requires.asked c.requires.absent))
    (asked_push c.args.made.now.entries (c.args.question, c.args.reply) c.requires.asked c.requires.this)
