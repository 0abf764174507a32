use Rattle.std.proofs.Common.{sym, ap, ◌∙◌}
use Rattle.rvt_tree.specs.Views.{labels_view}
use Rattle.c_meaning.specs.Statements.{any}
use Rattle.c_control.specs.Groups.{is_label}
use Rattle.c_control.proofs.Chosen.{has_here, has_later}
use Rattle.c_control.proofs.groups.has_label.Goals as goal

pub returns-then-is_label : goal.returns-then-is_label
returns-then-is_label c =
    has_here c.args.wanted.now _ _ (sym c.is_label.ensures ∙ c.if-is_label.true) ∙ ap (λ l. any (is_label c.args.wanted.now) (labels_view l)) (sym c.in-More.is) ∙ c.loop-labels.invariant

pub loop-labels-preserved : goal.loop-labels-preserved
loop-labels-preserved c =
    ap (λ l. any (is_label c.args.wanted.now) (labels_view l)) c.deref-labels.ensures ∙ has_later c.args.wanted.now _ _ (sym c.is_label.ensures ∙ c.if-is_label.false) ∙ ap (λ l. any (is_label c.args.wanted.now) (labels_view l)) (sym c.in-More.is) ∙ c.loop-labels.invariant
