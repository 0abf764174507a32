-- Work that was moved on by parts: values and places that were taken, and what comes then.
use Rattle.std.proofs.Common.{◌≡◌, ℕ, ◌+◌, ◌≤◌, List, Result, Ok, Err, IfOk, OnOk, sym, ap, subst, ◌∙◌, arith}
use Rattle.rvt_num.specs.declared.values.Trap.{Trap}
use Rattle.rvt_num.specs.declared.values.Value.{Value}
use Rattle.rvt_tree.specs.declared.programs.Program.{Program}
use Rattle.c_meaning.specs.Outcomes.{State, and_then, unless_trapped, trap}
use Rattle.c_meaning.specs.Stores.{Location}
use Rattle.c_tasks.specs.Operands.{Operands, operands, with_value, with_place}
use Rattle.c_tasks.specs.Tasks.{Rest, after, to_come, Becomes}
use Rattle.c_tasks.specs.declared.tasks.Task.{Task}
use Rattle.c_tasks.specs.declared.work.Work.{Work}
use Rattle.c_steps.specs.declared.progress.Progress.{Progress}
use Rattle.c_steps.specs.declared.progress.Progress.TheVariants.{GoesOn}
use Rattle.c_steps.specs.Steps.{onward, Advances}

-- a value that was computed goes to the tasks that wait
pub given_value : (program : Program) (d : ℕ) (s : State ℕ) (tasks before : List Task) (on wanted : Operands) (r computed : Result Value Trap) →
    tasks ≡ before → on ≡ wanted → r ≡ computed →
    and_then (unless_trapped r) (λ v. after program d tasks (with_value v on)) s ≡ and_then (unless_trapped computed) (λ v. after program d before (with_value v wanted)) s
given_value program d s tasks before on wanted r computed same_tasks same_operands is =
    ap (λ ts. and_then (unless_trapped r) (λ v. after program d ts (with_value v on)) s) same_tasks
    ∙ ap (λ o. and_then (unless_trapped r) (λ v. after program d before (with_value v o)) s) same_operands
    ∙ ap (λ q. and_then (unless_trapped q) (λ v. after program d before (with_value v wanted)) s) is

-- where it was a value, it was given; else there is the trap
pub gave_value : (work later : Work) (r : Result Value Trap) (v : Value) → r ≡ Ok v → later.tasks.items ≡ work.tasks.items → operands later ≡ with_value v (operands work) →
    (program : Program) (d : ℕ) (s : State ℕ) → to_come program d later s ≡ and_then (unless_trapped r) (λ w. after program d work.tasks.items (with_value w (operands work))) s
gave_value work later r v is same_tasks same_operands program d s =
    ap (λ ts. after program d ts (operands later) s) same_tasks
    ∙ ap (λ o. after program d work.tasks.items o s) same_operands
    ∙ sym (ap (λ q. and_then (unless_trapped q) (λ w. after program d work.tasks.items (with_value w (operands work))) s) is)

pub trapped_value : (work : Work) (r : Result Value Trap) (why : Trap) → r ≡ Err why →
    (program : Program) (d : ℕ) (s : State ℕ) → trap why s ≡ and_then (unless_trapped r) (λ w. after program d work.tasks.items (with_value w (operands work))) s
trapped_value work r why is program d s = sym (ap (λ q. and_then (unless_trapped q) (λ w. after program d work.tasks.items (with_value w (operands work))) s) is)

pub gave_place : (work later : Work) (r : Result Location Trap) (place : Location) → r ≡ Ok place → later.tasks.items ≡ work.tasks.items → operands later ≡ with_place place (operands work) →
    (program : Program) (d : ℕ) (s : State ℕ) → to_come program d later s ≡ and_then (unless_trapped r) (λ p. after program d work.tasks.items (with_place p (operands work))) s
gave_place work later r place is same_tasks same_operands program d s =
    ap (λ ts. after program d ts (operands later) s) same_tasks
    ∙ ap (λ o. after program d work.tasks.items o s) same_operands
    ∙ sym (ap (λ q. and_then (unless_trapped q) (λ p. after program d work.tasks.items (with_place p (operands work))) s) is)

pub trapped_place : (work : Work) (r : Result Location Trap) (why : Trap) → r ≡ Err why →
    (program : Program) (d : ℕ) (s : State ℕ) → trap why s ≡ and_then (unless_trapped r) (λ p. after program d work.tasks.items (with_place p (operands work))) s
trapped_place work r why is program d s = sym (ap (λ q. and_then (unless_trapped q) (λ p. after program d work.tasks.items (with_place p (operands work))) s) is)

-- and so does a place
pub given_place : (program : Program) (d : ℕ) (s : State ℕ) (tasks before : List Task) (on wanted : Operands) (r computed : Result Location Trap) →
    tasks ≡ before → on ≡ wanted → r ≡ computed →
    and_then (unless_trapped r) (λ place. after program d tasks (with_place place on)) s ≡ and_then (unless_trapped computed) (λ place. after program d before (with_place place wanted)) s
given_place program d s tasks before on wanted r computed same_tasks same_operands is =
    ap (λ ts. and_then (unless_trapped r) (λ place. after program d ts (with_place place on)) s) same_tasks
    ∙ ap (λ o. and_then (unless_trapped r) (λ place. after program d before (with_place place o)) s) same_operands
    ∙ ap (λ q. and_then (unless_trapped q) (λ place. after program d before (with_place place wanted)) s) is

-- work whose operands alone became others
pub becomes_with : (F : Program → ℕ → Rest → Rest) (old new : Work) (on : Operands) → new.tasks.items ≡ old.tasks.items → operands new ≡ on →
    ((program : Program) (d : ℕ) (next : Rest) (s : State ℕ) → next on s ≡ F program d next (operands old) s) → Becomes F old new
becomes_with F old new on same_tasks same_operands alike program d s =
    ap (λ ts. after program d ts (operands new) s) same_tasks
    ∙ ap (λ o. after program d old.tasks.items o s) same_operands
    ∙ alike program d (after program d old.tasks.items) s

-- work that became another after operands were taken from it
pub becomes_from : (H F : Program → ℕ → Rest → Rest) (old taken new : Work) (on : Operands) → taken.tasks.items ≡ old.tasks.items → operands taken ≡ on →
    ((program : Program) (d : ℕ) (next : Rest) (s : State ℕ) → H program d next on s ≡ F program d next (operands old) s) → Becomes H taken new → Becomes F old new
becomes_from H F old taken new on same_tasks same_operands alike h program d s =
    h program d s
    ∙ ap (λ ts. H program d (after program d ts) (operands taken) s) same_tasks
    ∙ ap (λ o. H program d (after program d old.tasks.items) o s) same_operands
    ∙ alike program d (after program d old.tasks.items) s

-- the same for one program
pub advances_from : (program : Program) (H F : ℕ → Rest → Rest) (old taken new : Work) (on : Operands) → taken.tasks.items ≡ old.tasks.items → operands taken ≡ on →
    ((d : ℕ) (next : Rest) (s : State ℕ) → H d next on s ≡ F d next (operands old) s) → Advances program H taken new → Advances program F old new
advances_from program H F old taken new on same_tasks same_operands alike h d s =
    h d s
    ∙ ap (λ ts. H d (after program d ts) (operands taken) s) same_tasks
    ∙ ap (λ o. H d (after program d old.tasks.items) o s) same_operands
    ∙ alike d (after program d old.tasks.items) s

-- where something was done, the activation goes on
pub going : {A E P : Type 0} (Q : Progress → Type 0) (done : Result A E) (r : Result Progress E) → r ≡ onward done → (P → Q GoesOn) → OnOk done P → IfOk r Q
going Q (Ok a) r is f h = subst (λ q. IfOk q Q) (sym is) (f h)
going Q (Err e) r is f h = subst (λ q. IfOk q Q) (sym is) tt

pub same_weight : (new old whole : ℕ) → new ≡ old → whole ≡ 1 → new + 1 + 0 ≤ old + whole
same_weight new old whole e is = omega (arith, e, is)

pub less_weight : (new old part whole : ℕ) → new ≤ old + part → whole ≡ 1 + part → new + 1 + 0 ≤ old + whole
less_weight new old part whole e is = omega (arith, e, is)

pub within_weight : (new old part whole : ℕ) → new + 1 ≤ old + part → whole ≡ part → new + 1 + 0 ≤ old + whole
within_weight new old part whole e is = omega (arith, e, is)

-- ---- results of calls

pub if_ok : {A E : Type 0} {P Q : A → Type 0} (r : Result A E) → ((a : A) → P a → Q a) → IfOk r P → IfOk r Q
if_ok (Ok a) f h = f a h
if_ok (Err e) f h = h

pub going_two : {A E P R : Type 0} (Q : Progress → Type 0) (done : Result A E) (r : Result Progress E) → r ≡ onward done → (P → R → Q GoesOn) → OnOk done P → OnOk done R → IfOk r Q
going_two Q (Ok a) r is f h k = subst (λ q. IfOk q Q) (sym is) (f h k)
going_two Q (Err e) r is f h k = subst (λ q. IfOk q Q) (sym is) tt

pub light_weight : (new old part whole : ℕ) → new + part ≡ old → whole ≡ 1 → new + 1 + part ≤ old + whole
light_weight new old part whole e is = omega (arith, e, is)
