use Rattle.std.proofs.Common.{◌≡◌, ◌++◌}
use Rattle.rvt_tree.specs.Views.{labels_view}
use Rattle.rvt_tree.specs.declared.statements.Labels.{size-Labels}
use Rattle.c_code.specs.Statements.{labels_code}
use Rattle.c_code.proofs.loops.emit_labels.Given as goal

abbrev pub invariant-labels : goal.invariant-labels
invariant-labels l = l.code.items ++ labels_code (labels_view l.left) ≡ l.initial.code.items ++ labels_code (labels_view l.initial.left)

abbrev pub decreases-labels : goal.decreases-labels
decreases-labels l = size-Labels l.left
