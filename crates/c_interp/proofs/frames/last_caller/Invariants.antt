use Rattle.std.proofs.Common.{◌≡◌, ℕ, ◌≤◌, List, Option, length}
use Rattle.rvt_num.specs.Number.{Number}
use Rattle.rvt_num.specs.declared.values.Value.{Value}
use Rattle.rvt_tree.specs.declared.programs.Program.{Program}
use Rattle.c_meaning.specs.Outcomes.{Returning}
use Rattle.c_interp.specs.Frames.{whole, frames_weight}
use Rattle.c_interp.proofs.frames.last_caller.Given as goal

abbrev pub invariant-frames : goal.invariant-frames
invariant-frames l =
    ((program : Program) (number : Option Number) (store : List Value) (left : ℕ) → whole program l.frames.items (Returning number store left) ≡ whole program l.initial.frames.items (Returning number store left))
    × (frames_weight l.frames.items ≤ frames_weight l.initial.frames.items)

abbrev pub decreases-frames : goal.decreases-frames
decreases-frames l = length l.frames.items
