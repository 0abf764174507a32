use Rattle.std.proofs.Common.{◌≡◌, ℕ}
use Rattle.c_interp.specs.Frames.{going, engine_weight}
use Rattle.c_interp.proofs.engine.Engine.advance.Given as goal

abbrev pub invariant-tasks : goal.invariant-tasks
invariant-tasks l = (left : ℕ) → going l.layouts l.self left ≡ going l.layouts l.initial.self left

abbrev pub decreases-tasks : goal.decreases-tasks
decreases-tasks l = engine_weight l.self
