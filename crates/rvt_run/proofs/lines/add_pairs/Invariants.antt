use Rattle.std.proofs.Common.{◌≡◌, ◌++◌, drop}
use Rattle.std.specs.Prelude.{map}
use Rattle.rvt_run.specs.Pairs.{said}
use Rattle.rvt_run.specs.Report.{pair_lines}
use Rattle.rvt_run.proofs.lines.add_pairs.Given as goal

-- the lines so far, and those of the pairs that are left
abbrev pub invariant-loop-pair : goal.invariant-loop-pair
invariant-loop-pair l = l.lines.items ++ pair_lines (map said (drop l.pair-index l.pairs)) ≡ l.fn.lines.items ++ pair_lines (map said l.pairs)
