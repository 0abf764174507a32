use Rattle.std.proofs.Common.{◌≡◌, vec_len}
use Rattle.rvt_tree.specs.Syntax.{no_initializers}
use Rattle.rvt_tree.specs.Views.{inits_view, inits_before}
use Rattle.rvt_tree.proofs.builders.initializers.Given as goal

abbrev pub invariant-loop-last : goal.invariant-loop-last
invariant-loop-last l = inits_before l.items.items (inits_view l.list) ≡ inits_before l.fn.items.items no_initializers

abbrev pub decreases-loop-last : goal.decreases-loop-last
decreases-loop-last l = vec_len l.items
