-- Work whose tasks do the parts of something, one after another.
use Rattle.std.proofs.Common.{◌≡◌, ℕ, List, [], ◌∷◌, ◌++◌, length, take, drop, reverse, Result, Ok, Err, OnOk, refl, sym, ap, ◌∙◌}
use Rattle.std.proofs.lemmas.List.{reverse-append, reverse-reverse}
use Rattle.rvt_num.specs.declared.values.Value.{Value}
use Rattle.rvt_tree.specs.declared.programs.Program.{Program}
use Rattle.c_meaning.specs.Outcomes.{State, Doing, go_on, and_then}
use Rattle.c_tasks.specs.Operands.{Operands, operands, with_value, with_place, onto}
use Rattle.rvt_tree.specs.Syntax.{LvalueExpression, Expression}
use Rattle.c_meaning.specs.Stores.{Location}
use Rattle.c_meaning.specs.Expressions.{place_of, value_of}
use Rattle.c_meaning.specs.Runs.{stepping}
use Rattle.c_tasks.specs.Tasks.{Rest, evaluating, locating, step, after, Becomes, TasksBecome}
use Rattle.c_tasks.specs.declared.tasks.Task.{Task}
use Rattle.c_tasks.specs.declared.work.Work.{Work}
use Rattle.c_tasks.proofs.Sequences.{then_alike, one_part, one_part_and, two_parts, two_parts_and, Turns, becomes}

-- what gives something to the operands, and then the rest
abbrev pub giving : {R : Type 0} → (Program → ℕ → Doing ℕ R) → (R → Operands → Operands) → Program → ℕ → Rest → Rest
giving whole put program d next on = and_then (whole program d) (λ r. next (put r on))

pub by_one : {A R : Type 0} (first : Program → ℕ → Doing ℕ A) (f : Program → ℕ → A → Doing ℕ R) (whole : Program → ℕ → Doing ℕ R) (put : R → Operands → Operands) (F : Program → ℕ → Rest → Rest) (old : Work) (more : List Task) →
    ((program : Program) (d : ℕ) (next : Rest) (on : Operands) (s : State ℕ) → F program d next on s ≡ and_then (first program d) (λ a. and_then (f program d a) (λ r. next (put r on))) s) →
    ((program : Program) (d : ℕ) (s : State ℕ) → whole program d s ≡ and_then (first program d) (f program d) s) →
    TasksBecome F old.tasks.items more → Turns (giving whole put) old more
by_one first f whole put F old more does is tasks =
    becomes F (giving whole put) old more tasks (λ program d next on s.
    does program d next on s
    ∙ one_part (first program d) (f program d) (λ r. next (put r on)) s
    ∙ sym (ap (go_on (λ r. next (put r on))) (is program d s)))

pub by_two : {A B R : Type 0} (first : Program → ℕ → Doing ℕ A) (second : Program → ℕ → Doing ℕ B) (f : Program → ℕ → A → B → Doing ℕ R) (whole : Program → ℕ → Doing ℕ R) (put : R → Operands → Operands) (F : Program → ℕ → Rest → Rest) (old : Work) (more : List Task) →
    ((program : Program) (d : ℕ) (next : Rest) (on : Operands) (s : State ℕ) → F program d next on s ≡ and_then (first program d) (λ a. and_then (second program d) (λ b. and_then (f program d a b) (λ r. next (put r on)))) s) →
    ((program : Program) (d : ℕ) (s : State ℕ) → whole program d s ≡ and_then (first program d) (λ a. and_then (second program d) (f program d a)) s) →
    TasksBecome F old.tasks.items more → Turns (giving whole put) old more
by_two first second f whole put F old more does is tasks =
    becomes F (giving whole put) old more tasks (λ program d next on s.
    does program d next on s
    ∙ two_parts (first program d) (second program d) (f program d) (λ r. next (put r on)) s
    ∙ sym (ap (go_on (λ r. next (put r on))) (is program d s)))

-- where what is computed from one part has a part of its own
pub by_one_and : {A B R : Type 0} (first : Program → ℕ → Doing ℕ A) (f : Program → ℕ → A → Doing ℕ B) (g : Program → ℕ → B → Doing ℕ R) (whole : Program → ℕ → Doing ℕ R) (put : R → Operands → Operands) (F : Program → ℕ → Rest → Rest) (old : Work) (more : List Task) →
    ((program : Program) (d : ℕ) (next : Rest) (on : Operands) (s : State ℕ) → F program d next on s ≡ and_then (first program d) (λ a. and_then (f program d a) (λ b. and_then (g program d b) (λ r. next (put r on)))) s) →
    ((program : Program) (d : ℕ) (s : State ℕ) → whole program d s ≡ and_then (first program d) (λ a. and_then (f program d a) (g program d)) s) →
    TasksBecome F old.tasks.items more → Turns (giving whole put) old more
by_one_and first f g whole put F old more does is tasks =
    becomes F (giving whole put) old more tasks (λ program d next on s.
    does program d next on s
    ∙ one_part_and (first program d) (f program d) (g program d) (λ r. next (put r on)) s
    ∙ sym (ap (go_on (λ r. next (put r on))) (is program d s)))

pub by_two_and : {A B C R : Type 0} (first : Program → ℕ → Doing ℕ A) (second : Program → ℕ → Doing ℕ B) (f : Program → ℕ → A → B → Doing ℕ C) (g : Program → ℕ → C → Doing ℕ R) (whole : Program → ℕ → Doing ℕ R) (put : R → Operands → Operands) (F : Program → ℕ → Rest → Rest) (old : Work) (more : List Task) →
    ((program : Program) (d : ℕ) (next : Rest) (on : Operands) (s : State ℕ) → F program d next on s ≡ and_then (first program d) (λ a. and_then (second program d) (λ b. and_then (f program d a b) (λ c. and_then (g program d c) (λ r. next (put r on))))) s) →
    ((program : Program) (d : ℕ) (s : State ℕ) → whole program d s ≡ and_then (first program d) (λ a. and_then (second program d) (λ b. and_then (f program d a b) (g program d))) s) →
    TasksBecome F old.tasks.items more → Turns (giving whole put) old more
by_two_and first second f g whole put F old more does is tasks =
    becomes F (giving whole put) old more tasks (λ program d next on s.
    does program d next on s
    ∙ two_parts_and (first program d) (second program d) (f program d) (g program d) (λ r. next (put r on)) s
    ∙ sym (ap (go_on (λ r. next (put r on))) (is program d s)))

-- a value, and then a task
pub after_value : {R : Type 0} (put : R → Operands → Operands) (whole : Program → ℕ → Doing ℕ R) (f : Program → ℕ → Value → Doing ℕ R) (task : Task) (old : Work) (more : List Task) (a : Expression) →
    ((program : Program) (d : ℕ) (next : Rest) (v : Value) (on : Operands) (s : State ℕ) → step program d task next (with_value v on) s ≡ and_then (f program d v) (λ r. next (put r on)) s) →
    ((program : Program) (d : ℕ) (s : State ℕ) → whole program d s ≡ and_then (value_of program (stepping program d) a) (f program d) s) →
    TasksBecome (λ program d next. evaluating program d a (step program d task next)) old.tasks.items more → Turns (giving whole put) old more
after_value put whole f task old more a does is tasks =
    by_one (λ program d. value_of program (stepping program d) a) f whole put (λ program d next. evaluating program d a (step program d task next)) old more
    (λ program d next on s. then_alike (value_of program (stepping program d) a s) _ _ (λ v t. does program d next v on t)) is tasks

-- the same for what is done by no task of one name
pub after_value_by : {R : Type 0} (put : R → Operands → Operands) (whole : Program → ℕ → Doing ℕ R) (f : Program → ℕ → Value → Doing ℕ R) (by : Program → ℕ → Rest → Rest) (old : Work) (more : List Task) (a : Expression) →
    ((program : Program) (d : ℕ) (next : Rest) (v : Value) (on : Operands) (s : State ℕ) → by program d next (with_value v on) s ≡ and_then (f program d v) (λ r. next (put r on)) s) →
    ((program : Program) (d : ℕ) (s : State ℕ) → whole program d s ≡ and_then (value_of program (stepping program d) a) (f program d) s) →
    TasksBecome (λ program d next. evaluating program d a (by program d next)) old.tasks.items more → Turns (giving whole put) old more
after_value_by put whole f by old more a does is tasks =
    by_one (λ program d. value_of program (stepping program d) a) f whole put (λ program d next. evaluating program d a (by program d next)) old more
    (λ program d next on s. then_alike (value_of program (stepping program d) a s) _ _ (λ v t. does program d next v on t)) is tasks

-- two values, and then a task
pub after_values : {R : Type 0} (put : R → Operands → Operands) (whole : Program → ℕ → Doing ℕ R) (f : Program → ℕ → Value → Value → Doing ℕ R) (task : Task) (old : Work) (more : List Task) (a b : Expression) →
    ((program : Program) (d : ℕ) (next : Rest) (v w : Value) (on : Operands) (s : State ℕ) → step program d task next (with_value w (with_value v on)) s ≡ and_then (f program d v w) (λ r. next (put r on)) s) →
    ((program : Program) (d : ℕ) (s : State ℕ) → whole program d s ≡ and_then (value_of program (stepping program d) a) (λ v. and_then (value_of program (stepping program d) b) (f program d v)) s) →
    TasksBecome (λ program d next. evaluating program d a (evaluating program d b (step program d task next))) old.tasks.items more → Turns (giving whole put) old more
after_values put whole f task old more a b does is tasks =
    by_two (λ program d. value_of program (stepping program d) a) (λ program d. value_of program (stepping program d) b) f whole put
    (λ program d next. evaluating program d a (evaluating program d b (step program d task next))) old more
    (λ program d next on s.
    then_alike (value_of program (stepping program d) a s) _ _ (λ v t. then_alike (value_of program (stepping program d) b t) _ _ (λ w u. does program d next v w on u)))
    is tasks

-- a place, and then a task
pub after_place : {R : Type 0} (put : R → Operands → Operands) (whole : Program → ℕ → Doing ℕ R) (f : Program → ℕ → Location → Doing ℕ R) (task : Task) (old : Work) (more : List Task) (a : LvalueExpression) →
    ((program : Program) (d : ℕ) (next : Rest) (place : Location) (on : Operands) (s : State ℕ) → step program d task next (with_place place on) s ≡ and_then (f program d place) (λ r. next (put r on)) s) →
    ((program : Program) (d : ℕ) (s : State ℕ) → whole program d s ≡ and_then (place_of program (stepping program d) a) (f program d) s) →
    TasksBecome (λ program d next. locating program d a (step program d task next)) old.tasks.items more → Turns (giving whole put) old more
after_place put whole f task old more a does is tasks =
    by_one (λ program d. place_of program (stepping program d) a) f whole put (λ program d next. locating program d a (step program d task next)) old more
    (λ program d next on s. then_alike (place_of program (stepping program d) a s) _ _ (λ v t. does program d next v on t)) is tasks

-- a place and a value, and then a task
pub after_both : {R : Type 0} (put : R → Operands → Operands) (whole : Program → ℕ → Doing ℕ R) (f : Program → ℕ → Location → Value → Doing ℕ R) (task : Task) (old : Work) (more : List Task) (a : LvalueExpression) (b : Expression) →
    ((program : Program) (d : ℕ) (next : Rest) (place : Location) (v : Value) (on : Operands) (s : State ℕ) → step program d task next (with_value v (with_place place on)) s ≡ and_then (f program d place v) (λ r. next (put r on)) s) →
    ((program : Program) (d : ℕ) (s : State ℕ) → whole program d s ≡ and_then (place_of program (stepping program d) a) (λ place. and_then (value_of program (stepping program d) b) (f program d place)) s) →
    TasksBecome (λ program d next. locating program d a (evaluating program d b (step program d task next))) old.tasks.items more → Turns (giving whole put) old more
after_both put whole f task old more a b does is tasks =
    by_two (λ program d. place_of program (stepping program d) a) (λ program d. value_of program (stepping program d) b) f whole put
    (λ program d next. locating program d a (evaluating program d b (step program d task next))) old more
    (λ program d next on s.
    then_alike (place_of program (stepping program d) a s) _ _ (λ place t. then_alike (value_of program (stepping program d) b t) _ _ (λ v u. does program d next place v on u)))
    is tasks

-- tasks that became others, and then others again
pub tasks_then : (F G : Program → ℕ → Rest → Rest) (old middle new : List Task) → TasksBecome F old middle → TasksBecome G middle new → TasksBecome (λ program d next. G program d (F program d next)) old new
tasks_then F G old middle new first second program d = second program d ∙ ap (G program d) (first program d)

-- work that is not changed
pub unchanged : (G : Program → ℕ → Rest → Rest) (work : Work) → ((program : Program) (d : ℕ) (next : Rest) (on : Operands) (s : State ℕ) → next on s ≡ G program d next on s) → Becomes G work work
unchanged G work alike program d s = alike program d (after program d work.tasks.items) (operands work) s

pub on_ok_two : {A E : Type 0} {P Q R : Type 0} (r : Result A E) → (P → Q → R) → OnOk r P → OnOk r Q → OnOk r R
on_ok_two (Ok a) f h k = f h k
on_ok_two (Err e) f h k = h

-- ---- values above a height

append_nil : (xs : List Value) → xs ≡ xs ++ []
append_nil [] = refl
append_nil (x ∷ xs) = ap (λ ys. x ∷ ys) (append_nil xs)

append_more : (xs : List Value) (v : Value) (vs : List Value) → (xs ++ v ∷ []) ++ vs ≡ xs ++ v ∷ vs
append_more [] v vs = refl
append_more (x ∷ xs) v vs = ap (λ ys. x ∷ ys) (append_more xs v vs)

reverse_onto : (vs ws : List Value) → reverse (onto vs ws) ≡ reverse ws ++ vs
reverse_onto [] ws = append_nil (reverse ws)
reverse_onto (v ∷ vs) ws = reverse_onto vs (v ∷ ws) ∙ ap (λ xs. xs ++ vs) (reverse-append (v ∷ []) ws) ∙ append_more (reverse ws) v vs

drop_front : (xs ys : List Value) → drop (length xs) (xs ++ ys) ≡ ys
drop_front [] ys = refl
drop_front (x ∷ xs) ys = drop_front xs ys

take_front : (xs ys : List Value) → take (length xs) (xs ++ ys) ≡ xs
take_front [] ys = refl
take_front (x ∷ xs) ys = ap (λ zs. x ∷ zs) (take_front xs ys)

-- on the values that wait in a list, the last one last
pub above_onto : (vs items : List Value) (height : ℕ) → height ≡ length items → drop height (reverse (onto vs (reverse items))) ≡ vs
above_onto vs items height e =
    ap (λ h. drop h (reverse (onto vs (reverse items)))) e
    ∙ ap (drop (length items)) (reverse_onto vs (reverse items) ∙ ap (λ xs. xs ++ vs) (reverse-reverse items))
    ∙ drop_front items vs

pub lowered_onto : (vs items : List Value) (height : ℕ) → height ≡ length items → reverse (take height (reverse (onto vs (reverse items)))) ≡ reverse items
lowered_onto vs items height e =
    ap reverse
    (ap (λ h. take h (reverse (onto vs (reverse items)))) e
    ∙ ap (take (length items)) (reverse_onto vs (reverse items) ∙ ap (λ xs. xs ++ vs) (reverse-reverse items))
    ∙ take_front items vs)
