use Rattle.std.proofs.Common.{List, ◌++◌, drop}
use Rattle.std.specs.Prelude.{map}
use Rattle.rvt_run.specs.Pairs.{PairVerdict, ArePairs, said}
use Rattle.rvt_run.proofs.pairs.pairs.Given as goal

-- the pairs so far and those of the functions that are left are all
abbrev pub invariant-loop-i : goal.invariant-loop-i
invariant-loop-i l =
    (rest : List PairVerdict) → ArePairs l.pairing l.partners l.new l.twins l.i (drop l.i l.old) rest → ArePairs l.pairing l.partners l.new l.twins 0 l.old (map said l.pairs.items ++ rest)
