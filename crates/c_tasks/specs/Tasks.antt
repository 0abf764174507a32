-- What each task does, and what is still to come of an activation of a function.
use Rattle.std.specs.Prelude.{◌≡◌, ℕ, List, [], ◌∷◌, Bool, true, false, not, if◌then◌else◌, Option, Some, None, Result, Ok, pos, neg_ℤ, unwrap_or, option_map}
use Rattle.rvt_num.specs.Number.{Number}
use Rattle.rvt_num.specs.Operations.{unary_of, converted}
use Rattle.rvt_num.specs.declared.values.Trap.{Trap}
use Rattle.rvt_num.specs.declared.values.Value.{Value}
use Rattle.rvt_num.specs.declared.values.Value.TheVariants.{Num}
use Rattle.rvt_tree.specs.declared.programs.Program.{Program}
use Rattle.rvt_tree.specs.Syntax.{LvalueExpression, Expression, Arguments, Action, Initializer, Initializers, Statement, while_loop, do_loop, for_loop, Statements, Groups}
use Rattle.rvt_tree.specs.Views.{lvalue_view, expr_view, exprs_view, acts_view, inits_view, stmt_view, stmts_view, groups_view}
use Rattle.c_meaning.specs.Outcomes.{State, Done, Doing, Manner, Normally, give, leave, and_then, unless_trapped}
use Rattle.c_meaning.specs.Stores.{Location, number_of, holds, same_pointer, beyond, element_at, moved, target, pointer_to}
use Rattle.c_meaning.specs.Expressions.{truth_value, operated, times, result_value, looked_up, place_of, address_of, value_of, values_of}
use Rattle.c_meaning.specs.Statements.{put, put_cells, updated, bumped, direction, normally_then, after_round, after_body, after_group, is_case, is_default, any, or_else, declared_in, left_scope, replaced, replaced_alone, act, acts, initial_cells, member_cells, test_of, meaning, block, group}
use Rattle.c_meaning.specs.Runs.{spend, stepping}
use Rattle.c_tasks.specs.Operands.{Operands, operands, with_value, top_value, without_value, with_values, above, lowered, with_place, top_place, without_place, with_manner, zeros_from}
use Rattle.c_tasks.specs.declared.tasks.Unary.{Unary}
use Rattle.c_tasks.specs.declared.tasks.Unary.TheVariants as U
use Rattle.c_tasks.specs.declared.tasks.Binary.{Binary}
use Rattle.c_tasks.specs.declared.tasks.Binary.TheVariants as B
use Rattle.c_tasks.specs.declared.tasks.Part.{Part}
use Rattle.c_tasks.specs.declared.tasks.Part.TheVariants as P
use Rattle.c_tasks.specs.declared.tasks.Task.{Task}
use Rattle.c_tasks.specs.declared.tasks.Task.TheVariants as T
use Rattle.c_tasks.specs.declared.work.Work.{Work}

-- what comes of the operands that wait, in a state
abbrev pub Rest : Type 0
Rest = Operands → Doing ℕ Value

-- ---- operations on values

abbrev pub unary_result : Program → Unary → Value → Result Value Trap
unary_result program (U.Convert kind) v = Ok (Num (converted kind (number_of v)))
unary_result program (U.Number op) v = Ok (Num (unary_of op (number_of v)))
unary_result program U.Not v = Ok (truth_value (not (holds v)))
unary_result program U.Truth v = Ok (truth_value (holds v))
unary_result program (U.Bump bump) v = bumped bump v
unary_result program (U.BumpPointer bump size) v = moved program v (direction bump (pos size))

abbrev pub binary_result : Program → Binary → Value → Value → Result Value Trap
binary_result program (B.Numbers op) v w = operated op v w
binary_result program B.SamePointer v w = Ok (truth_value (same_pointer v w))
binary_result program B.OtherPointer v w = Ok (truth_value (not (same_pointer v w)))
binary_result program (B.Forward size) v w = moved program v (times w size)
binary_result program (B.ForwardFrom size) v w = moved program w (times v size)
binary_result program (B.Backward size) v w = moved program v (neg_ℤ (times w size))
binary_result program (B.Update op kind) v w = updated op kind v w

-- a value computed from the last one, from the last two, from a place, or a place from a value
abbrev pub from_value : (Value → Result Value Trap) → Rest → Rest
from_value compute next on = and_then (unless_trapped (compute (top_value on))) (λ v. next (with_value v (without_value on)))

abbrev pub from_values : (Value → Value → Result Value Trap) → Rest → Rest
from_values compute next on =
    and_then (unless_trapped (compute (top_value (without_value on)) (top_value on))) (λ v. next (with_value v (without_value (without_value on))))

abbrev pub aiming : (Value → Result Location Trap) → Rest → Rest
aiming compute next on = and_then (unless_trapped (compute (top_value on))) (λ place. next (with_place place (without_value on)))

-- ---- loops, by their statements

abbrev pub number_in : Statement → ℕ
number_in (while_loop number test body) = number
number_in (do_loop number body test) = number
number_in (for_loop number first test last body) = number
number_in _ = 0

abbrev pub is_do : Statement → Bool
is_do (do_loop number body test) = true
is_do _ = false

abbrev pub test_in : Statement → Option Expression
test_in (while_loop number test body) = Some test
test_in (do_loop number body test) = Some test
test_in (for_loop number first test last body) = test
test_in _ = None

abbrev pub last_in : Statement → List Action
last_in (for_loop number first test last body) = last
last_in _ = []

abbrev pub body_in : Statement → Statement
body_in (while_loop number test body) = body
body_in (do_loop number body test) = body
body_in (for_loop number first test last body) = body
body_in other = other

module _ (program : Program) (d : ℕ) where
  -- ---- what is done, and then the rest with what it gives

  abbrev pub evaluating : Expression → Rest → Rest
  evaluating e next on = and_then (value_of program (stepping program d) e) (λ v. next (with_value v on))

  abbrev pub locating : LvalueExpression → Rest → Rest
  locating lvalue next on = and_then (place_of program (stepping program d) lvalue) (λ place. next (with_place place on))

  abbrev pub addressing : LvalueExpression → Rest → Rest
  addressing lvalue next on = and_then (address_of program (stepping program d) lvalue) (λ v. next (with_value v on))

  abbrev pub passing : Arguments → Rest → Rest
  passing arguments next on = and_then (values_of program (stepping program d) arguments) (λ vs. next (with_values vs on))

  abbrev pub acting : Action → Rest → Rest
  acting a next on = and_then (act program (stepping program d) a) (λ _. next on)

  abbrev pub acting_all : List Action → Rest → Rest
  acting_all all next on = and_then (acts program (stepping program d) all) (λ _. next on)

  -- a place gets what is computed from what it holds, and from the value of an expression
  abbrev pub replacing : Binary → LvalueExpression → Expression → Rest → Rest
  replacing op lvalue e next on = and_then (replaced program (stepping program d) lvalue e (binary_result program op)) (λ _. next on)

  abbrev pub replacing_alone : Unary → LvalueExpression → Rest → Rest
  replacing_alone op lvalue next on = and_then (replaced_alone program (stepping program d) lvalue (unary_result program op)) (λ _. next on)

  -- what `&&` and `||` give, where it is known whether the left side holds
  abbrev pub both : Bool → Expression → Rest → Rest
  both left e next on =
      and_then (if left then and_then (value_of program (stepping program d) e) (λ w. give (truth_value (holds w))) else give (truth_value false)) (λ v. next (with_value v on))

  abbrev pub either : Bool → Expression → Rest → Rest
  either left e next on =
      and_then (if left then give (truth_value true) else and_then (value_of program (stepping program d) e) (λ w. give (truth_value (holds w)))) (λ v. next (with_value v on))

  abbrev pub filling : Initializer → ℕ → ℕ → Rest → Rest
  filling init at count next on = and_then (initial_cells program (stepping program d) init (zeros_from at count on)) (λ cells. next (with_values cells on))

  abbrev pub filling_members : Initializers → ℕ → ℕ → Rest → Rest
  filling_members members at count next on = and_then (member_cells program (stepping program d) members (zeros_from at count on)) (λ cells. next (with_values cells on))

  -- how a part ends
  abbrev pub ending : Doing ℕ Manner → Rest → Rest
  ending part next on = and_then part (λ manner. next (with_manner manner on))

  abbrev pub running_statement : Statement → Rest → Rest
  running_statement s = ending (meaning program (stepping program d) s)

  abbrev pub running_block : Statements → Rest → Rest
  running_block body = ending (block program (stepping program d) body)

  -- ---- loops

  abbrev pub round_in : Statement → Doing ℕ Manner
  round_in (while_loop number test body) = meaning program (stepping program d) body
  round_in (do_loop number body test) = meaning program (stepping program d) body
  round_in (for_loop number first test last body) = and_then (meaning program (stepping program d) body) (after_body (acts program (stepping program d) last))
  round_in other = give Normally

  -- the loop statement, without what stands first in a `for`
  abbrev pub again : Statement → Doing ℕ Manner
  again s = (stepping program d).loop (number_in s) (is_do s) (test_of program (stepping program d) (test_in s)) (round_in s)

  -- a loop that has its test
  abbrev pub onward : Statement → Doing ℕ Manner
  onward (while_loop number test body) = and_then (round_in (while_loop number test body)) (after_round (again (while_loop number test body)))
  onward (do_loop number body test) = again (do_loop number body test)
  onward (for_loop number first test last body) = and_then (round_in (for_loop number first test last body)) (after_round (again (for_loop number first test last body)))
  onward other = give Normally

  -- where the test is known
  abbrev pub decided : Statement → Bool → Doing ℕ Manner
  decided s holds = if holds then onward s else give Normally

  abbrev pub tested : Statement → Doing ℕ Manner
  tested s = and_then (spend (test_of program (stepping program d) (test_in s))) (decided s)

  -- what comes of a loop after a round
  abbrev pub returning : Statement → Doing ℕ Manner
  returning (while_loop number test body) = again (while_loop number test body)
  returning (do_loop number body test) = tested (do_loop number body test)
  returning (for_loop number first test last body) = again (for_loop number first test last body)
  returning other = give Normally

  abbrev pub rounded : Statement → Manner → Doing ℕ Manner
  rounded s = after_round (returning s)

  abbrev pub running_part : Part → Statement → Rest → Rest
  running_part P.Whole s next on = ending (meaning program (stepping program d) s) next on
  running_part P.Test s next on = ending (tested s) next on
  running_part P.Decide s next on = ending (decided s (holds (top_value on))) next (without_value on)
  running_part P.Last s next on = ending (after_body (acts program (stepping program d) (last_in s)) on.manner) next on
  running_part P.After s next on = ending (rounded s on.manner) next on

  -- ---- other statements

  abbrev pub branching : Statement → Option Statement → Rest → Rest
  branching first None next on = ending (if holds (top_value on) then meaning program (stepping program d) first else give Normally) next (without_value on)
  branching first (Some second) next on =
      ending (if holds (top_value on) then meaning program (stepping program d) first else meaning program (stepping program d) second) next (without_value on)

  abbrev pub chosen_group : Number → Groups → Doing ℕ Manner
  chosen_group n groups =
      unwrap_or (or_else (group program (stepping program d) (any (is_case n)) groups) (group program (stepping program d) (any is_default) groups)) (give Normally)

  abbrev pub selecting : Groups → Rest → Rest
  selecting groups next on = ending (and_then (chosen_group (number_of (top_value on)) groups) after_group) next (without_value on)

  -- ---- tasks

  abbrev pub step : Task → Rest → Rest
  step (T.Evaluate e) next on = evaluating (expr_view e.now.value) next on
  step (T.EvaluateSide e) next on = evaluating (expr_view e.now) next on
  step (T.Locate lvalue) next on = locating (lvalue_view lvalue.now.value) next on
  step (T.Address lvalue) next on = addressing (lvalue_view lvalue.now.value) next on
  step (T.Arguments arguments) next on = passing (exprs_view arguments.now.value) next on
  step (T.Unary op) next on = from_value (unary_result program op) next on
  step (T.Binary op) next on = from_values (binary_result program op) next on
  step (T.And e) next on = both (holds (top_value on)) (expr_view e.now.value) next (without_value on)
  step (T.Or e) next on = either (holds (top_value on)) (expr_view e.now.value) next (without_value on)
  step (T.Choose first second) next on =
      and_then (if holds (top_value on) then value_of program (stepping program d) (expr_view first.now.value) else value_of program (stepping program d) (expr_view second.now.value))
      (λ v. next (with_value v (without_value on)))
  step (T.Call function height) next on = and_then ((stepping program d).call function (above height on)) (λ result. next (with_value (result_value result) (lowered height on)))
  step T.Load next on = and_then (looked_up program (top_place on)) (λ v. next (with_value v (without_place on)))
  step T.Fetch next on = and_then (looked_up program (top_place on)) (λ v. next (with_value v on))
  step T.Store next on = and_then (put program (top_place on) (top_value on)) (λ _. next (without_place (without_value on)))
  step T.Point next on = next (with_value (pointer_to (top_place on)) (without_place on))
  step (T.Aim pointee) next on = aiming (target program pointee) next on
  step (T.Member cell) next on = next (with_place (beyond cell (top_place on)) (without_place on))
  step (T.Element count size) next on =
      and_then (unless_trapped (element_at (top_place on) (number_of (top_value on)).value count size)) (λ place. next (with_place place (without_place (without_value on))))
  step (T.ElementAddress size) next on =
      and_then (unless_trapped (moved program (pointer_to (top_place on)) (times (top_value on) size))) (λ v. next (with_value v (without_place (without_value on))))
  step T.Discard next on = next (without_value on)
  step (T.Members members at count) next on = filling_members (inits_view members.now.value) at count next on
  step (T.Pad at count) next on = next (with_values (zeros_from at count on) on)
  step (T.Initialize variable height) next on = ending (put_cells program variable (above height on)) next (lowered height on)
  step (T.Statement part s) next on = running_part part (stmt_view s.now) next on
  step (T.Block body) next on = running_block (stmts_view body.now.value) next on
  step (T.Rest body) next on = ending (normally_then (block program (stepping program d) (stmts_view body.now.value)) on.manner) next on
  step (T.Leave body) next on = ending (left_scope (declared_in (stmts_view body.now)) on.manner) next on
  step (T.Branch first second) next on = branching (stmt_view first.now.value) (option_map (λ s. stmt_view s.now.value) second) next on
  step (T.Select groups) next on = selecting (groups_view groups.now.value) next on
  step T.LeaveSwitch next on = ending (after_group on.manner) next on
  step (T.Acts all) next on = acting_all (acts_view all.now.value) next on
  step T.Complete next on = next (with_manner Normally on)
  step T.Return next on = leave (Some (number_of (top_value on)))

  -- what comes of these tasks, the last one first, and then of the rest
  abbrev pub after_from : Rest → List Task → Rest
  after_from next [] = next
  after_from next (task ∷ tasks) = after_from (step task next) tasks

  -- at the end there is the last value
  abbrev pub last_value : Rest
  last_value on s = Done (top_value on) s

  abbrev pub after : List Task → Rest
  after tasks = after_from last_value tasks

  abbrev pub to_come : Work → Doing ℕ Value
  to_come work = after work.tasks.items (operands work)

-- the work became what some step and then its tasks were
abbrev pub Becomes : (Program → ℕ → Rest → Rest) → Work → Work → Type 0
Becomes first before later =
    (program : Program) (d : ℕ) (s : State ℕ) → to_come program d later s ≡ first program d (after program d before.tasks.items) (operands before) s

-- the same for a list of tasks alone
abbrev pub TasksBecome : (Program → ℕ → Rest → Rest) → List Task → List Task → Type 0
TasksBecome first before later = (program : Program) (d : ℕ) → after program d later ≡ first program d (after program d before)
