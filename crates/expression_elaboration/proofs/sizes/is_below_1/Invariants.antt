use Rattle.std.proofs.Common.{length, ◌≡◌}
use Rattle.std.specs.List.{list_any}
use Rattle.expression_typing.specs.TypeNames.{is_below_1}
use Rattle.expression_elaboration.proofs.sizes.is_below_1.Given as goal

abbrev pub invariant-lengths : goal.invariant-lengths
invariant-lengths l = record { so_far : list_any is_below_1 l.left ≡ list_any is_below_1 l.fn.lengths }

abbrev pub decreases-lengths : goal.decreases-lengths
decreases-lengths l = length l.left
