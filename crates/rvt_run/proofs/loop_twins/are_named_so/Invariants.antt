use Rattle.std.proofs.Common.{◌↔◌, length}
use Rattle.rvt_run.specs.LoopTwins.{AreNamedSo}
use Rattle.rvt_run.proofs.loop_twins.are_named_so.Given as goal

-- what is left is named alike exactly where the whole is
abbrev pub invariant-locals : goal.invariant-locals
invariant-locals l = AreNamedSo l.f l.g l.left ↔ AreNamedSo l.f l.g l.initial.left

abbrev pub decreases-locals : goal.decreases-locals
decreases-locals l = length l.left
