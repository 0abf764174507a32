use Rattle.std.proofs.Common.{◌≡◌}
use Rattle.rvt_tree.specs.Views.{labels_view}
use Rattle.c_meaning.specs.Statements.{any}
use Rattle.c_control.specs.Groups.{is_label}
use Rattle.c_control.proofs.groups.has_label.Given as goal

-- the labels that are left have the one that is looked for, or none has
abbrev pub invariant-loop-labels : goal.invariant-loop-labels
invariant-loop-labels l = any (is_label l.wanted) (labels_view l.labels) ≡ any (is_label l.wanted) (labels_view l.initial.labels)
