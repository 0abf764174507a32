use Rattle.std.proofs.Common.{◌≡◌, ◌++◌, drop}
use Rattle.function_pairs.specs.Units.{pairs_from}
use Rattle.function_pairs.proofs.units.pair_list.Given as goal

-- the pairs so far, and those of the functions that are left
abbrev pub invariant-partners : goal.invariant-partners
invariant-partners l = l.pairs.items ++ pairs_from l.number (drop l.number l.fn.partners) ≡ pairs_from 0 l.fn.partners
