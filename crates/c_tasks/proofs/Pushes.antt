-- A task that is put on others.
use Rattle.std.proofs.Common.{◌≡◌, ℕ, ◌+◌, List, [], ◌∷◌, ◌++◌, refl, ap, ◌∙◌, arith}
use Rattle.rvt_tree.specs.declared.programs.Program.{Program}
use Rattle.c_tasks.specs.Tasks.{Rest, step, after_from, after, last_value}
use Rattle.c_tasks.specs.Weights.{task_weight, tasks_weight}
use Rattle.c_tasks.specs.declared.tasks.Task.{Task}

after_from_push : (program : Program) (d : ℕ) (next : Rest) (tasks : List Task) (task : Task) → after_from program d next (tasks ++ task ∷ []) ≡ step program d task (after_from program d next tasks)
after_from_push program d next [] task = refl
after_from_push program d next (t ∷ tasks) task = after_from_push program d (step program d t next) tasks task

-- what comes of tasks after one more
pub after_push : (program : Program) (d : ℕ) (tasks : List Task) (task : Task) (more : List Task) → more ≡ tasks ++ task ∷ [] → after program d more ≡ step program d task (after program d tasks)
after_push program d tasks task more e = ap (λ ts. after program d ts) e ∙ after_from_push program d (last_value program d) tasks task

weight_of_push : (tasks : List Task) (task : Task) → tasks_weight (tasks ++ task ∷ []) ≡ tasks_weight tasks + task_weight task
weight_of_push [] task = omega arith
weight_of_push (t ∷ tasks) task = omega (arith, weight_of_push tasks task)

pub weight_push : (tasks : List Task) (task : Task) (more : List Task) → more ≡ tasks ++ task ∷ [] → tasks_weight more ≡ tasks_weight tasks + task_weight task
weight_push tasks task more e = ap tasks_weight e ∙ weight_of_push tasks task
