use Rattle.std.proofs.Common.{◌≡◌, map, vec_len}
use Rattle.c_syntax.specs.Syntax.{block_before, block_of}
use Rattle.c_syntax.specs.Views.{part_view, parts_view}
use Rattle.c_syntax.proofs.builders.block_parts.Given as goal

abbrev pub invariant-loop-last : goal.invariant-loop-last
invariant-loop-last l = block_before (map part_view l.items.items) (parts_view l.list) ≡ block_of (map part_view l.fn.items.items)

abbrev pub decreases-loop-last : goal.decreases-loop-last
decreases-loop-last l = vec_len l.items
