use Rattle.std.proofs.Common.{◌≡◌, ◌++◌, drop}
use Rattle.function_pairs.specs.Units.{alone_from}
use Rattle.function_pairs.proofs.units.alone.Given as goal

-- the numbers so far, and those of the functions that are left
abbrev pub invariant-functions : goal.invariant-functions
invariant-functions l = l.numbers.items ++ alone_from l.fn.partners l.number (drop l.number l.fn.functions) ≡ alone_from l.fn.partners 0 l.fn.functions
