use Rattle.std.proofs.Common.{◌≡◌, drop}
use Rattle.std.specs.List.{list_any}
use Rattle.file_typing.specs.DeclaratorTypes.{is_above_most}
use Rattle.declarator_types.proofs.lengths.has_length_above_most.Given as goal

-- what is left says the same as the whole
abbrev pub invariant-loop-length : goal.invariant-loop-length
invariant-loop-length l = list_any is_above_most (drop l.length-index l.lengths) ≡ list_any is_above_most l.fn.lengths
