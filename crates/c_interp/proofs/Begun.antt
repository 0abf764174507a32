-- The run of a function is the call of it.
use Rattle.std.proofs.Common.{◌≡◌, ℕ, List, [], reverse, drop, Option, Some, None, refl, ap, ◌∙◌}
use Rattle.std.proofs.lemmas.List.{reverse-reverse}
use Rattle.rvt_num.specs.Number.{Number}
use Rattle.rvt_num.specs.declared.values.Value.{Value}
use Rattle.rvt_tree.specs.declared.programs.Program.{Program}
use Rattle.c_meaning.specs.Outcomes.{state, Outcome, Done, Returning, Trapped, Cut, Deep, go_on}
use Rattle.c_meaning.specs.Expressions.{result_value}
use Rattle.c_meaning.specs.Runs.{calls, stop_of_call, run}
use Rattle.c_tasks.specs.Operands.{operands, above}
use Rattle.c_tasks.specs.Tasks.{step, after, to_come, TasksBecome}
use Rattle.c_tasks.specs.declared.tasks.Task.{Task}
use Rattle.c_tasks.specs.declared.tasks.Task.TheVariants as T
use Rattle.c_steps.specs.Steps.{with_left}
use Rattle.c_interp.specs.declared.engine.Engine.{Engine}
use Rattle.c_interp.specs.Frames.{bottom, whole, going}
use Rattle.c_interp.proofs.Initialized.{drop_none}

stops : (n : ℕ) (o : Outcome ℕ (Option Number)) → stop_of_call n (bottom (go_on (λ number s. Done (result_value number) s) o)) ≡ stop_of_call n o
stops n (Done None s) = refl
stops n (Done (Some number) s) = refl
stops n (Returning number store left) = refl
stops n (Trapped why left) = refl
stops n Cut = refl
stops n Deep = refl

pub all_values : (values : List Value) → drop 0 (reverse (reverse values)) ≡ values
all_values values = drop_none (reverse (reverse values)) ∙ reverse-reverse values

pub begins : (program : Program) (engine : Engine) (function deep steps : ℕ) (values store : List Value) (fresh : List Task) →
    engine.frames.items ≡ [] → engine.depth ≡ deep → engine.cells ≡ record { locals = []; store = store; kept = tt } → fresh ≡ [] →
    TasksBecome (λ program d. step program d (T.Call function 0)) fresh engine.work.tasks.items → above 0 (operands engine.work) ≡ values →
    stop_of_call steps (going program engine steps) ≡ run program function values store steps deep
begins program engine function deep steps values store fresh frames depth cells none put values_are =
    ap (λ fs. stop_of_call steps (whole program fs (to_come program engine.depth engine.work (with_left engine.cells steps)))) frames
    ∙ ap (λ d. stop_of_call steps (bottom (to_come program d engine.work (with_left engine.cells steps)))) depth
    ∙ ap (λ c. stop_of_call steps (bottom (to_come program deep engine.work (with_left c steps)))) cells
    ∙ ap (λ next. stop_of_call steps (bottom (next (operands engine.work) (state [] store steps)))) (put program deep ∙ ap (λ tasks. step program deep (T.Call function 0) (after program deep tasks)) none)
    ∙ ap (λ vs. stop_of_call steps (bottom (go_on (λ number s. Done (result_value number) s) (calls program steps deep function vs (state [] store steps))))) values_are
    ∙ stops steps (calls program steps deep function values (state [] store steps))
