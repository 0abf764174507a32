-- The code of a construct stands for what the construct does.
use Rattle.std.specs.Prelude.{◌≡◌, ℕ, suc, ◌+◌, List, slice_get, Bool, true, if◌then◌else◌, Option, Some}
use Rattle.rvt_num.specs.Number.{Number}
use Rattle.rvt_tree.specs.declared.statements.Stmt.{Stmt}
use Rattle.rvt_tree.specs.declared.programs.Program.{Program}
use Rattle.rvt_tree.specs.Syntax.{Expression, Action, Statement, Groups}
use Rattle.c_meaning.specs.Outcomes.{State, Normally, and_then}
use Rattle.c_meaning.specs.Stores.{number_of}
use Rattle.c_meaning.specs.Statements.{test_of, after_round, after_group, is_case, is_default}
use Rattle.c_meaning.specs.Runs.{spend, stepping, body_of}
use Rattle.c_tasks.specs.Operands.{Operands, top_value, with_manner}
use Rattle.c_tasks.specs.Tasks.{Rest, evaluating, acting, ending, running_statement, test_in, decided, tested, selecting, last_value}
use Rattle.c_code.specs.Expressions.{value_code}
use Rattle.c_code.specs.Initializers.{Counts}
use Rattle.c_code.specs.Acts.{act_code}
use Rattle.c_code.specs.Statements.{statement_code, groups_code}
use Rattle.c_code.specs.Bodies.{body_code}
use Rattle.c_code.specs.declared.instructions.Instruction.{Instruction}
use Rattle.c_code.specs.declared.instructions.Instruction.TheVariants as I
use Rattle.code_laws.specs.Stands.{Spans, Stands, loop_code, is_break}
use Rattle.code_laws.specs.Selecting.{Finds, arriving}

-- the value of an expression, and then what stands behind its code
abbrev pub CodeOfValues : Type 0
CodeOfValues =
    (program : Program) (d : ℕ) (counts : Counts) (code : List Instruction) (e : Expression) (slot place from to : ℕ) (next : Rest) → Spans code from to (value_code e slot place) →
    Stands program d counts code to (suc slot) place next → Stands program d counts code from slot place (evaluating program d e next)

-- the same of what a statement does
abbrev pub CodeOfActs : Type 0
CodeOfActs =
    (program : Program) (d : ℕ) (counts : Counts) (code : List Instruction) (a : Action) (from to : ℕ) (next : Rest) → Spans code from to (act_code a) →
    Stands program d counts code to 0 0 next → Stands program d counts code from 0 0 (acting program d a next)

-- and of a statement
abbrev pub CodeOfStatements : Program → Type 0
CodeOfStatements program =
    (d : ℕ) (counts : Counts) (code : List Instruction) (s : Statement) (from to : ℕ) (next : Rest) → Spans code from to (statement_code counts s) →
    Stands program d counts code to 0 0 next → Stands program d counts code from 0 0 (running_statement program d s next)

-- the code of a body, from its first instruction on, does the body and ends with the last value that waits
abbrev pub CodeOfBodies : Program → Type 0
CodeOfBodies program =
    (d : ℕ) (counts : Counts) (body : Option Stmt) →
    Stands program d counts (body_code counts body) 0 0 0 (ending program d (body_of program (stepping program d) body) (last_value program d))

-- a loop whose test has its step
abbrev pub testing : Program → ℕ → Statement → Rest → Rest
testing program d st = ending program d (and_then (test_of program (stepping program d) (test_in st)) (decided program d st))

-- where a loop turns: its test stands where its code begins; the next round spends a step and is tested there, unless a `break` ended the loop
abbrev pub TurnsLaw : Program → Type 0
TurnsLaw program =
    (d : ℕ) (counts : Counts) (code : List Instruction) (pc n head fin : ℕ) (next : Rest) (st : Statement) → head + n ≡ pc → Spans code head fin (loop_code counts st) → suc (suc pc) ≡ fin →
    Stands program d counts code (suc pc) 0 0 (λ on. next (with_manner Normally on)) →
    Stands program d counts code head 0 0 (testing program d st next) ×
    ((on : Operands) (s : State ℕ) → ending program d (after_round (tested program d st) on.manner) next on s ≡ (if is_break on.manner then next (with_manner Normally on) else spend (testing program d st next on)) s)

-- where a group is selected: what stands at the place that the search finds, for the `case` first and then for `default`
abbrev pub SelectsLaw : Program → Type 0
SelectsLaw program =
    (d : ℕ) (counts : Counts) (code : List Instruction) (pc fin : ℕ) (next : Rest) (groups : Groups) → Spans code (suc pc) fin (groups_code counts groups) →
    slice_get code fin ≡ Some I.LeaveSwitch →
    Stands program d counts code fin 0 0 (λ on. ending program d (after_group on.manner) next on) →
    (n : Number) (by_case by_default : Bool) (case_place default_place : ℕ) → Finds (is_case n) code (suc pc) by_case case_place → Finds is_default code (suc pc) by_default default_place →
    (far : Rest) × Stands program d counts code (if by_case then case_place else default_place) 0 0 far ×
    ((on : Operands) (s : State ℕ) → number_of (top_value on) ≡ n → selecting program d groups next on s ≡ far (arriving (if by_case then true else by_default) on) s)
