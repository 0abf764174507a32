-- The task that is taken from others is the last one.
use Rattle.std.proofs.Common.{◌≡◌, ℕ, ◌+◌, List, [], ◌∷◌, ◌++◌, Option, Some, None, MatchOption, IfSome, IfNone, length, refl, sym, ap, ◌∙◌, arith}
use Rattle.std.specs.Option.{option_to_list}
use Rattle.rvt_tree.specs.declared.programs.Program.{Program}
use Rattle.c_tasks.specs.Tasks.{Rest, step, after_from, after, last_value, TasksBecome}
use Rattle.c_tasks.specs.Weights.{task_weight, tasks_weight}
use Rattle.c_tasks.specs.declared.tasks.Task.{Task}

after_from_last : (program : Program) (d : ℕ) (next : Rest) (tasks : List Task) (task : Task) → after_from program d next (tasks ++ task ∷ []) ≡ step program d task (after_from program d next tasks)
after_from_last program d next [] task = refl
after_from_last program d next (t ∷ tasks) task = after_from_last program d (step program d t next) tasks task

weight_of_last : (tasks : List Task) (task : Task) → tasks_weight (tasks ++ task ∷ []) ≡ tasks_weight tasks + task_weight task
weight_of_last [] task = omega arith
weight_of_last (t ∷ tasks) task = omega (arith, weight_of_last tasks task)

taken_next : (items fewer : List Task) (task : Task) → items ≡ fewer ++ task ∷ [] → TasksBecome (λ program d. step program d task) fewer items
taken_next items fewer task e program d = ap (λ ts. after program d ts) e ∙ after_from_last program d (last_value program d) fewer task

taken_weight : (items fewer : List Task) (task : Task) → items ≡ fewer ++ task ∷ [] → tasks_weight items ≡ tasks_weight fewer + task_weight task
taken_weight items fewer task e = ap tasks_weight e ∙ weight_of_last fewer task

empty_of : (items : List Task) → length items ≡ 0 → items ≡ []
empty_of [] e = refl
empty_of (a ∷ items) e = absurd (let no : ⊥ = omega (arith, e) in no)

empty_front : (fewer : List Task) → fewer ++ [] ≡ [] → fewer ≡ []
empty_front [] e = refl
empty_front (a ∷ fewer) e = cc

none_of : (n m : ℕ) (items fewer : List Task) → n ≡ length items → (n ≡ 0) × (m ≡ 0) → items ≡ fewer ++ [] → (items ≡ []) × (fewer ≡ [])
none_of n m items fewer len h e =
    let none : length items ≡ 0 = omega (arith, len, h.0) in
    let empty = empty_of items none in
    (empty, empty_front fewer (sym e ∙ empty))

-- what is known of the task that was taken, if there was one
pub next_taken : (items fewer : List Task) (r : Option Task) → items ≡ fewer ++ option_to_list r → IfSome r (λ task. TasksBecome (λ program d. step program d task) fewer items)
next_taken items fewer None e = tt
next_taken items fewer (Some task) e = taken_next items fewer task e

pub weight_taken : (items fewer : List Task) (r : Option Task) → items ≡ fewer ++ option_to_list r → IfSome r (λ task. tasks_weight items ≡ tasks_weight fewer + task_weight task)
weight_taken items fewer None e = tt
weight_taken items fewer (Some task) e = taken_weight items fewer task e

pub none_taken : (n m : ℕ) (items fewer : List Task) (r : Option Task) → n ≡ length items → MatchOption r ((n ≡ 0) × (m ≡ 0)) (λ _. m + 1 ≡ n) → items ≡ fewer ++ option_to_list r → IfNone r (items ≡ [])
none_taken n m items fewer None len h e = (none_of n m items fewer len h e).0
none_taken n m items fewer (Some task) len h e = tt

pub none_left : (n m : ℕ) (items fewer : List Task) (r : Option Task) → n ≡ length items → MatchOption r ((n ≡ 0) × (m ≡ 0)) (λ _. m + 1 ≡ n) → items ≡ fewer ++ option_to_list r → IfNone r (fewer ≡ [])
none_left n m items fewer None len h e = (none_of n m items fewer len h e).1
none_left n m items fewer (Some task) len h e = tt
