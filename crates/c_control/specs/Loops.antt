-- What is to come of a loop, by the laws of runs.
use Rattle.std.specs.Prelude.{◌≡◌, ℕ, Bool, true, false}
use Rattle.rvt_tree.specs.declared.programs.Program.{Program}
use Rattle.rvt_tree.specs.Syntax.{Statement, while_loop, do_loop, for_loop}
use Rattle.c_meaning.specs.Outcomes.{State, and_then}
use Rattle.c_meaning.specs.Statements.{test_of}
use Rattle.c_meaning.specs.Runs.{stepping}
use Rattle.c_meaning.specs.Laws.{LoopUnfolds, TestsSpend, BodiesSpend, RoundsSpend}
use Rattle.c_tasks.specs.Operands.{operands}
use Rattle.c_tasks.specs.Tasks.{Rest, ending, test_in, decided, after, to_come}
use Rattle.c_tasks.specs.declared.work.Work.{Work}

-- the laws by which a loop does one turn, and then itself
pub record Lawful (program : Program) : Type 0 where
  pub unfolds : LoopUnfolds program
  pub tests : TestsSpend program
  pub bodies : BodiesSpend program
  pub rounds : RoundsSpend program

-- where these laws hold, the work became what some step and then its tasks were
abbrev pub BecomesByLaw : (Program → ℕ → Rest → Rest) → Work → Work → Type 0
BecomesByLaw first before later =
    (program : Program) → Lawful program → (d : ℕ) (s : State ℕ) → to_come program d later s ≡ first program d (after program d before.tasks.items) (operands before) s

abbrev pub is_loop : Statement → Bool
is_loop (while_loop number test body) = true
is_loop (do_loop number body test) = true
is_loop (for_loop number first test last body) = true
is_loop _ = false

module _ (program : Program) (d : ℕ) where
  -- the test of a loop whose step is spent, and then the loop
  abbrev pub testing : Statement → Rest → Rest
  testing s = ending program d (and_then (test_of program (stepping program d) (test_in s)) (decided program d s))
