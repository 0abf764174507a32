use Rattle.std.proofs.Common.{◌≡◌, ◌≤◌}
use Rattle.c_interp.specs.Frames.{going}
use Rattle.c_interp.proofs.engine.Engine.finish.Given as goal

abbrev pub invariant-steps : goal.invariant-steps
invariant-steps l = (going l.layouts l.self l.left ≡ going l.layouts l.initial.self l.initial.left) × (l.left ≤ l.initial.left)

abbrev pub decreases-steps : goal.decreases-steps
decreases-steps l = l.left
