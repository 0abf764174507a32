use Rattle.std.proofs.Common.{◌≡◌, drop, is_none}
use Rattle.std.specs.List.{list_any}
use Rattle.declarator_types.proofs.lengths.has_no_length.Given as goal

-- what is left says the same as the whole
abbrev pub invariant-loop-length : goal.invariant-loop-length
invariant-loop-length l = list_any is_none (drop l.length-index l.lengths) ≡ list_any is_none l.fn.lengths
