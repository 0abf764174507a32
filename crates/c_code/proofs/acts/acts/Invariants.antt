use Rattle.std.proofs.Common.{◌≡◌, ◌++◌}
use Rattle.rvt_tree.specs.Views.{acts_view}
use Rattle.rvt_tree.specs.declared.statements.Acts.{size-Acts}
use Rattle.c_code.specs.Acts.{acts_code}
use Rattle.c_code.proofs.acts.acts.Given as goal

-- what was emitted, with what is left
abbrev pub invariant-acts : goal.invariant-acts
invariant-acts l = l.code.items ++ acts_code (acts_view l.left) ≡ l.initial.code.items ++ acts_code (acts_view l.initial.left)

abbrev pub decreases-acts : goal.decreases-acts
decreases-acts l = size-Acts l.left
