use Rattle.std.proofs.Common.{◌≡◌, map, vec_len}
use Rattle.c_syntax.specs.Syntax.{initializers_before, initializers_of}
use Rattle.c_syntax.specs.Views.{value_view, values_view}
use Rattle.c_syntax.proofs.builders.initializers.Given as goal

abbrev pub invariant-loop-last : goal.invariant-loop-last
invariant-loop-last l = initializers_before (map value_view l.items.items) (values_view l.list) ≡ initializers_of (map value_view l.fn.items.items)

abbrev pub decreases-loop-last : goal.decreases-loop-last
decreases-loop-last l = vec_len l.items
