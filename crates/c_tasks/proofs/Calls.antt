-- A call, after its arguments.
use Rattle.std.proofs.Common.{◌≡◌, ℕ, List, length, ap, ◌∙◌}
use Rattle.rvt_num.specs.declared.values.Value.{Value}
use Rattle.rvt_tree.specs.declared.programs.Program.{Program}
use Rattle.rvt_tree.specs.Syntax.{call, call_void, Arguments}
use Rattle.c_meaning.specs.Outcomes.{State, give, and_then}
use Rattle.c_meaning.specs.Expressions.{values_of, result_value}
use Rattle.c_meaning.specs.Statements.{nothing}
use Rattle.c_meaning.specs.Runs.{stepping}
use Rattle.c_tasks.specs.Operands.{operands, with_value, with_values, lowered}
use Rattle.c_tasks.specs.Tasks.{Rest, acting, passing, evaluating, step, after, TasksBecome}
use Rattle.c_tasks.specs.declared.tasks.Task.{Task}
use Rattle.c_tasks.specs.declared.tasks.Task.TheVariants as T
use Rattle.c_tasks.specs.declared.work.Work.{Work}
use Rattle.c_tasks.proofs.Sequences.{then_alike, one_part, one_part_and, Turns}
use Rattle.c_tasks.proofs.Stacks.{with_list}
use Rattle.c_tasks.proofs.Forms.{tasks_then, above_onto, lowered_onto}

-- the step of a call on its arguments
on_arguments : (program : Program) (d : ℕ) (next : Rest) (work : Work) (function height : ℕ) → height ≡ length work.values.items → (vs : List Value) (s : State ℕ) →
    step program d (T.Call function height) next (with_values vs (operands work)) s ≡ and_then ((stepping program d).call function vs) (λ r. next (with_value (result_value r) (operands work))) s
on_arguments program d next work function height e vs s =
    ap (λ passed. and_then ((stepping program d).call function passed) (λ r. next (with_value (result_value r) (lowered height (with_values vs (operands work))))) s) (above_onto vs work.values.items height e)
    ∙ ap (λ left. and_then ((stepping program d).call function vs) (λ r. next (with_value (result_value r) (with_list left (operands work)))) s) (lowered_onto vs work.values.items height e)

pub calling : (work : Work) (function : ℕ) (arguments : Arguments) (height : ℕ) → height ≡ length work.values.items → (middle more : List Task) →
    TasksBecome (λ program d. step program d (T.Call function height)) work.tasks.items middle →
    TasksBecome (λ program d. passing program d arguments) middle more →
    Turns (λ program d. evaluating program d (call function arguments)) work more
calling work function arguments height e middle more first second program d s =
    ap (λ next. next (operands work) s) (tasks_then (λ program d. step program d (T.Call function height)) (λ program d. passing program d arguments) work.tasks.items middle more first second program d)
    ∙ then_alike (values_of program (stepping program d) arguments s) _ _ (λ vs t. on_arguments program d (after program d work.tasks.items) work function height e vs t)
    ∙ one_part_and (values_of program (stepping program d) arguments) (λ vs. (stepping program d).call function vs) (λ r. give (result_value r)) (λ v. after program d work.tasks.items (with_value v (operands work))) s

-- the call of a function without a result
pub calling_void : (work : Work) (function : ℕ) (arguments : Arguments) (height : ℕ) → height ≡ length work.values.items → (first_middle middle : List Task) →
    TasksBecome (λ program d. step program d T.Discard) work.tasks.items first_middle →
    TasksBecome (λ program d. step program d (T.Call function height)) first_middle middle →
    (program : Program) (d : ℕ) (s : State ℕ) → passing program d arguments (after program d middle) (operands work) s ≡ acting program d (call_void function arguments) (after program d work.tasks.items) (operands work) s
calling_void work function arguments height e first_middle middle first second program d s =
    ap (λ next. passing program d arguments next (operands work) s)
    (tasks_then (λ program d. step program d T.Discard) (λ program d. step program d (T.Call function height)) work.tasks.items first_middle middle first second program d)
    ∙ then_alike (values_of program (stepping program d) arguments s) _ _ (λ vs t.
    on_arguments program d (step program d T.Discard (after program d work.tasks.items)) work function height e vs t
    ∙ one_part ((stepping program d).call function vs) (λ r. nothing) (λ _. after program d work.tasks.items (operands work)) t)
    ∙ one_part (values_of program (stepping program d) arguments) (λ vs. and_then ((stepping program d).call function vs) (λ r. nothing)) (λ _. after program d work.tasks.items (operands work)) s
