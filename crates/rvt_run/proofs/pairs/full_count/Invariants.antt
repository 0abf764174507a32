use Rattle.std.proofs.Common.{◌≡◌, ◌+◌, ◌≤◌, drop}
use Rattle.std.specs.Prelude.{map}
use Rattle.rvt_run.specs.Pairs.{said}
use Rattle.rvt_run.specs.Report.{full_among}
use Rattle.rvt_run.proofs.pairs.full_count.Given as goal

-- those so far, and those that are left
abbrev pub invariant-loop-pair : goal.invariant-loop-pair
invariant-loop-pair l = record {
  value : l.count + full_among (map said (drop l.pair-index l.pairs)) ≡ full_among (map said l.pairs);
  within : l.count ≤ l.pair-index;
}
