use Rattle.std.proofs.Common.{◌≡◌, vec_len}
use Rattle.rvt_tree.specs.Syntax.{no_arguments}
use Rattle.rvt_tree.specs.Views.{exprs_view, exprs_before}
use Rattle.rvt_tree.proofs.builders.arguments.Given as goal

abbrev pub invariant-loop-last : goal.invariant-loop-last
invariant-loop-last l = exprs_before l.items.items (exprs_view l.list) ≡ exprs_before l.fn.items.items no_arguments

abbrev pub decreases-loop-last : goal.decreases-loop-last
decreases-loop-last l = vec_len l.items
