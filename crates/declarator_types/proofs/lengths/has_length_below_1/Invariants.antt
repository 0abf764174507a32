use Rattle.std.proofs.Common.{◌≡◌, drop}
use Rattle.std.specs.List.{list_any}
use Rattle.expression_typing.specs.TypeNames.{is_below_1}
use Rattle.declarator_types.proofs.lengths.has_length_below_1.Given as goal

-- what is left says the same as the whole
abbrev pub invariant-loop-length : goal.invariant-loop-length
invariant-loop-length l = list_any is_below_1 (drop l.length-index l.lengths) ≡ list_any is_below_1 l.fn.lengths
