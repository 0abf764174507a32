use Rattle.std.proofs.Common.{length}
use Rattle.rvt_run.specs.LoopTwins.{HaveOneNaming}
use Rattle.rvt_run.proofs.Alike.{NamingLeft}
use Rattle.rvt_run.proofs.loop_twins.have_one_naming.Given as goal

abbrev pub invariant-loops : goal.invariant-loops
invariant-loops l = NamingLeft l.f l.g (HaveOneNaming l.f l.g) l.left

abbrev pub decreases-loops : goal.decreases-loops
decreases-loops l = length l.left
