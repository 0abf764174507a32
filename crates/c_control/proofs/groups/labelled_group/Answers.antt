use Rattle.std.proofs.Common.{sym, ap, ◌∙◌}
use Rattle.rvt_tree.specs.Views.{groups_view}
use Rattle.c_control.specs.Groups.{labelled_group}
use Rattle.c_control.proofs.Chosen.{labelled_here, labelled_later}
use Rattle.c_control.proofs.groups.labelled_group.Goals as goal

pub returns-then-has_label : goal.returns-then-has_label
returns-then-has_label c =
    labelled_here c.args.wanted.now _ _ (groups_view c.in-More.rest.value) (sym c.has_label.ensures ∙ c.if-has_label.true) ∙ ap (λ g. labelled_group c.args.wanted.now (groups_view g)) (sym c.in-More.is) ∙ c.loop-groups.invariant

pub loop-groups-preserved : goal.loop-groups-preserved
loop-groups-preserved c =
    ap (λ g. labelled_group c.args.wanted.now (groups_view g)) c.deref-groups.ensures ∙ labelled_later c.args.wanted.now _ _ (groups_view c.in-More.rest.value) (sym c.has_label.ensures ∙ c.if-has_label.false) ∙ ap (λ g. labelled_group c.args.wanted.now (groups_view g)) (sym c.in-More.is) ∙ c.loop-groups.invariant
