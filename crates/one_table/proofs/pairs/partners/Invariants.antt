use Rattle.std.proofs.Common.{◌≡◌, ◌++◌, drop}
use Rattle.one_table.specs.Candidates.{partners_from}
use Rattle.one_table.proofs.pairs.partners.Given as goal

-- the partners so far, and those of the functions that are left
abbrev pub invariant-loop-number : goal.invariant-loop-number
invariant-loop-number l = l.partners.items ++ partners_from l.old l.new l.number (drop l.number l.old) ≡ partners_from l.old l.new 0 l.old
