-- What one task does to an activation of a function.
use Rattle.std.specs.Prelude.{◌≡◌, ℕ, ◌+◌, Result, Ok, Err}
use Rattle.rvt_tree.specs.declared.programs.Program.{Program}
use Rattle.rvt_tree.specs.Syntax.{declaration_with}
use Rattle.rvt_tree.specs.Views.{init_view, stmt_view}
use Rattle.rvt_num.specs.declared.values.Value.{Value}
use Rattle.c_meaning.specs.Outcomes.{State, state, Doing, leave, trap}
use Rattle.c_places.specs.Kept.{Contents}
use Rattle.c_tasks.specs.Operands.{operands}
use Rattle.c_tasks.specs.Tasks.{Rest, step, running_statement, running_part, after, to_come}
use Rattle.c_tasks.specs.Weights.{initializer_weight}
use Rattle.c_tasks.specs.declared.tasks.Part.TheVariants as P
use Rattle.c_tasks.specs.declared.tasks.Task.TheVariants as T
use Rattle.c_tasks.specs.declared.work.Work.{Work}
use Rattle.c_steps.specs.declared.progress.Progress.{Progress}
use Rattle.c_steps.specs.declared.progress.Progress.TheVariants.{GoesOn, Traps, Returns, Calls, Tests, Initializes}

-- the contents, where so many steps are left
abbrev pub with_left : Contents → ℕ → State ℕ
with_left cells left = state cells.locals cells.store left

-- the activation goes on where something could be done
abbrev pub onward : {A E : Type 0} → Result A E → Result Progress E
onward (Ok a) = Ok GoesOn
onward (Err e) = Err e

-- what is to come of a declaration with an initializer, beside the tasks that wait
abbrev pub progress_weight : Progress → ℕ
progress_weight (Initializes variable init) = 8 + initializer_weight (init_view init.now)
progress_weight _ = 0

module _ (program : Program) where
  -- what is still to come after a task
  abbrev pub coming : ℕ → Progress → Work → Doing ℕ Value
  coming d GoesOn work = to_come program d work
  coming d (Traps why) work = trap why
  coming d (Returns number) work = leave number
  coming d (Calls function height) work = step program d (T.Call function height) (after program d work.tasks.items) (operands work)
  coming d (Tests s) work = running_part program d P.Test (stmt_view s.now) (after program d work.tasks.items) (operands work)
  coming d (Initializes variable init) work = running_statement program d (declaration_with variable (init_view init.now)) (after program d work.tasks.items) (operands work)

  -- the work, whatever the contents, has done a part
  abbrev pub WorkDoes : (ℕ → Rest → Rest) → Work → Progress → Work → Type 0
  WorkDoes part before progress later =
      (d : ℕ) (s : State ℕ) → coming d progress later s ≡ part d (after program d before.tasks.items) (operands before) s

  -- the same where the activation goes on
  abbrev pub Advances : (ℕ → Rest → Rest) → Work → Work → Type 0
  Advances part before later = (d : ℕ) (s : State ℕ) → to_come program d later s ≡ part d (after program d before.tasks.items) (operands before) s

  -- the work and the contents have done a part, however many steps are left
  abbrev pub Does : (ℕ → Rest → Rest) → Work → Contents → Progress → Work → Contents → Type 0
  Does part before cells progress later new_cells =
      (d left : ℕ) → coming d progress later (with_left new_cells left) ≡ part d (after program d before.tasks.items) (operands before) (with_left cells left)
