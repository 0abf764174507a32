-- A branch that is chosen by what the test came to.
use Rattle.std.proofs.Common.{◌≡◌, ℕ, Bool, Option, Some, None, if◌then◌else◌, ap}
use Rattle.rvt_tree.specs.declared.programs.Program.{Program}
use Rattle.rvt_tree.specs.Syntax.{Statement}
use Rattle.c_meaning.specs.Outcomes.{State, Normally, give}
use Rattle.c_meaning.specs.Stores.{holds}
use Rattle.c_meaning.specs.Statements.{meaning}
use Rattle.c_meaning.specs.Runs.{stepping}
use Rattle.c_tasks.specs.Operands.{Operands, top_value, without_value}
use Rattle.c_tasks.specs.Tasks.{Rest, ending, branching}
use Rattle.c_control.specs.Branches.{branching_by}

pub branched : (program : Program) (d : ℕ) (first : Statement) (second : Option Statement) (on : Operands) (b : Bool) (next : Rest) (s : State ℕ) → b ≡ holds (top_value on) →
    branching_by program d b first second next (without_value on) s ≡ branching program d first second next on s
branched program d first None on b next s is = ap (λ t. ending program d (if t then meaning program (stepping program d) first else give Normally) next (without_value on) s) is
branched program d first (Some second) on b next s is =
    ap (λ t. ending program d (if t then meaning program (stepping program d) first else meaning program (stepping program d) second) next (without_value on) s) is
