use Rattle.std.proofs.Common.{◌≡◌, ◌++◌}
use Rattle.rvt_tree.specs.Views.{acts_view}
use Rattle.c_meaning.specs.Interfaces.{named_by_all}
use Rattle.loop_interfaces.proofs.named.add_by_all.Given as goal

-- those so far, and those that are left
abbrev pub invariant-loop-rest : goal.invariant-loop-rest
invariant-loop-rest l = l.out.items ++ named_by_all (acts_view l.rest) ≡ l.initial.out.items ++ named_by_all (acts_view l.initial.rest)
