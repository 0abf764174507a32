use Rattle.std.proofs.Common.{ap, ◌∙◌}
use Rattle.rvt_tree.specs.Views.{groups_view}
use Rattle.rvt_tree.specs.declared.statements.Label.TheVariants.{Default}
use Rattle.c_meaning.specs.Statements.{or_else}
use Rattle.c_control.specs.Groups.{labelled_group}
use Rattle.c_control.proofs.groups.group_of.Goals as goal

pub returns-in-Some : goal.returns-in-Some
returns-in-Some c = ap (λ o. or_else o (labelled_group Default (groups_view c.args.groups.now))) c.in-Some.ensures

pub returns-in-None : goal.returns-in-None
returns-in-None c = c.labelled_group-in-None.ensures ∙ ap (λ o. or_else o (labelled_group Default (groups_view c.args.groups.now))) c.in-None.ensures
