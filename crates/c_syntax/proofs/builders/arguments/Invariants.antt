use Rattle.std.proofs.Common.{◌≡◌, map, vec_len}
use Rattle.c_syntax.specs.Syntax.{arguments_before, arguments_of}
use Rattle.c_syntax.specs.Views.{expr_view, exprs_view}
use Rattle.c_syntax.proofs.builders.arguments.Given as goal

abbrev pub invariant-loop-last : goal.invariant-loop-last
invariant-loop-last l = arguments_before (map expr_view l.items.items) (exprs_view l.list) ≡ arguments_of (map expr_view l.fn.items.items)

abbrev pub decreases-loop-last : goal.decreases-loop-last
decreases-loop-last l = vec_len l.items
