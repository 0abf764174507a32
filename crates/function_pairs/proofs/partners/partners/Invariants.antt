use Rattle.std.proofs.Common.{◌≡◌, ◌++◌, drop}
use Rattle.function_pairs.specs.Sides.{partners_among}
use Rattle.function_pairs.proofs.partners.partners.Given as goal

-- the partners so far, and those of the functions that are left
abbrev pub invariant-loop-number : goal.invariant-loop-number
invariant-loop-number l = l.partners.items ++ partners_among l.own l.other l.number (drop l.number l.functions) ≡ partners_among l.own l.other 0 l.functions
