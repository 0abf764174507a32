use Rattle.std.proofs.Common.{◌≡◌, map, vec_len}
use Rattle.c_syntax.specs.Syntax.{dimensions_before, dimensions_of}
use Rattle.c_syntax.specs.Views.{dim_view, dims_view}
use Rattle.c_syntax.proofs.builders.dimensions.Given as goal

abbrev pub invariant-loop-last : goal.invariant-loop-last
invariant-loop-last l = dimensions_before (map dim_view l.items.items) (dims_view l.list) ≡ dimensions_of (map dim_view l.fn.items.items)

abbrev pub decreases-loop-last : goal.decreases-loop-last
decreases-loop-last l = vec_len l.items
