use Rattle.std.proofs.Common.{List, ◌++◌, length}
use Rattle.std.specs.Prelude.{map}
use Rattle.rvt_run.specs.Pairs.{PairVerdict, AreLoopPairs, said}
use Rattle.rvt_run.proofs.pairs.loop_pairs.Given as goal

-- the pairs so far and those of the loops that are left are all
abbrev pub invariant-loops : goal.invariant-loops
invariant-loops l =
    (rest : List PairVerdict) → AreLoopPairs l.pairing l.old l.new l.are_twins l.left l.right rest → AreLoopPairs l.pairing l.old l.new l.are_twins l.initial.left l.initial.right (map said l.pairs.items ++ rest)

abbrev pub decreases-loops : goal.decreases-loops
decreases-loops l = length l.left
