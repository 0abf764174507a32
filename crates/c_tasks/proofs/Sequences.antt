-- Parts that are done one after another.
use Rattle.std.proofs.Common.{◌≡◌, ℕ, List, refl, sym, ap, ◌∙◌}
use Rattle.rvt_tree.specs.declared.programs.Program.{Program}
use Rattle.c_meaning.specs.Outcomes.{State, Outcome, Done, Returning, Trapped, Cut, Deep, Doing, go_on, and_then}
use Rattle.c_tasks.specs.Operands.{Operands, operands}
use Rattle.c_tasks.specs.Tasks.{Rest, after, to_come, Becomes, TasksBecome}
use Rattle.c_tasks.specs.declared.tasks.Task.{Task}
use Rattle.c_tasks.specs.declared.work.Work.{Work}

pub then_then : {X A B C : Type 0} (o : Outcome X A) (f : A → Doing X B) (g : B → Doing X C) → go_on g (go_on f o) ≡ go_on (λ a s. go_on g (f a s)) o
then_then (Done a s) f g = refl
then_then (Returning n store x) f g = refl
then_then (Trapped why x) f g = refl
then_then Cut f g = refl
then_then Deep f g = refl

pub then_alike : {X A B : Type 0} (o : Outcome X A) (f g : A → Doing X B) → ((a : A) (s : State X) → f a s ≡ g a s) → go_on f o ≡ go_on g o
then_alike (Done a s) f g h = h a s
then_alike (Returning n store x) f g h = refl
then_alike (Trapped why x) f g h = refl
then_alike Cut f g h = refl
then_alike Deep f g h = refl

-- one part, and then what follows
pub one_part : {X A B C : Type 0} (first : Doing X A) (f : A → Doing X B) (next : B → Doing X C) (s : State X) →
    and_then first (λ a. and_then (f a) next) s ≡ and_then (and_then first f) next s
one_part first f next s = sym (then_then (first s) f next)

-- two parts
pub two_parts : {X A B C D : Type 0} (first : Doing X A) (second : Doing X B) (f : A → B → Doing X C) (next : C → Doing X D) (s : State X) →
    and_then first (λ a. and_then second (λ b. and_then (f a b) next)) s ≡ and_then (and_then first (λ a. and_then second (f a))) next s
two_parts first second f next s =
    then_alike (first s) _ _ (λ a t. sym (then_then (second t) (f a) next)) ∙ sym (then_then (first s) (λ a. and_then second (f a)) next)

-- two parts, and two things computed from them
pub two_parts_and : {X A B C D E : Type 0} (first : Doing X A) (second : Doing X B) (f : A → B → Doing X C) (g : C → Doing X D) (next : D → Doing X E) (s : State X) →
    and_then first (λ a. and_then second (λ b. and_then (f a b) (λ c. and_then (g c) next))) s ≡
    and_then (and_then first (λ a. and_then second (λ b. and_then (f a b) g))) next s
two_parts_and first second f g next s =
    then_alike (first s) _ _ (λ a t. then_alike (second t) _ _ (λ b u. sym (then_then (f a b u) g next)))
    ∙ two_parts first second (λ a b. and_then (f a b) g) next s

-- a part and what is computed from it
pub one_part_and : {X A B C D : Type 0} (first : Doing X A) (f : A → Doing X B) (g : B → Doing X C) (next : C → Doing X D) (s : State X) →
    and_then first (λ a. and_then (f a) (λ b. and_then (g b) next)) s ≡ and_then (and_then first (λ a. and_then (f a) g)) next s
one_part_and first f g next s =
    then_alike (first s) _ _ (λ a t. sym (then_then (f a t) g next)) ∙ sym (then_then (first s) (λ a. and_then (f a) g) next)

-- the tasks of some work became these, which do some step and then what the work did
abbrev pub Turns : (Program → ℕ → Rest → Rest) → Work → List Task → Type 0
Turns G old more = (program : Program) (d : ℕ) (s : State ℕ) → after program d more (operands old) s ≡ G program d (after program d old.tasks.items) (operands old) s

pub becomes : (F G : Program → ℕ → Rest → Rest) (old : Work) (more : List Task) → TasksBecome F old.tasks.items more →
    ((program : Program) (d : ℕ) (next : Rest) (on : Operands) (s : State ℕ) → F program d next on s ≡ G program d next on s) → Turns G old more
becomes F G old more tasks alike program d s =
    ap (λ next. next (operands old) s) (tasks program d)
    ∙ alike program d (after program d old.tasks.items) (operands old) s

-- work with other operands alone
pub becomes_with : (G : Program → ℕ → Rest → Rest) (old new : Work) (on : Operands) → new.tasks.items ≡ old.tasks.items → operands new ≡ on →
    ((program : Program) (d : ℕ) (next : Rest) (s : State ℕ) → next on s ≡ G program d next (operands old) s) → Becomes G old new
becomes_with G old new on tasks new_operands alike program d s =
    ap (λ ts. after program d ts (operands new) s) tasks
    ∙ ap (λ on. after program d old.tasks.items on s) new_operands
    ∙ alike program d (after program d old.tasks.items) s

-- work whose tasks became others, and that became another then
pub becomes_then : (F G H : Program → ℕ → Rest → Rest) (old new : Work) (middle : List Task) → TasksBecome F old.tasks.items middle →
    ((program : Program) (d : ℕ) (s : State ℕ) → to_come program d new s ≡ G program d (after program d middle) (operands old) s) →
    ((program : Program) (d : ℕ) (next : Rest) (on : Operands) (s : State ℕ) → G program d (F program d next) on s ≡ H program d next on s) → Becomes H old new
becomes_then F G H old new middle tasks later alike program d s =
    later program d s
    ∙ ap (λ next. G program d next (operands old) s) (tasks program d)
    ∙ alike program d (after program d old.tasks.items) (operands old) s
