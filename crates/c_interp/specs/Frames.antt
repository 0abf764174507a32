-- What comes of a run whose activations wait for one another.
use Rattle.std.specs.Prelude.{◌≡◌, ℕ, ◌+◌, ◌-◌, ◌<◌, List, [], ◌∷◌, Option, Some, None, Bool, true, false}
use Rattle.rvt_num.specs.Number.{Number}
use Rattle.rvt_num.specs.declared.values.Trap.TheVariants.{NoReturn}
use Rattle.rvt_num.specs.declared.values.Value.{Value}
use Rattle.rvt_num.specs.declared.values.Value.TheVariants.{Num, Null, At}
use Rattle.rvt_tree.specs.declared.types.CType.{CType}
use Rattle.rvt_tree.specs.declared.programs.Program.{Program}
use Rattle.c_meaning.specs.Outcomes.{State, state, Outcome, Done, Returning, Trapped, Cut, Deep, Doing, go_on, Normally}
use Rattle.c_meaning.specs.Stores.{objects_of}
use Rattle.c_meaning.specs.Expressions.{result_value}
use Rattle.c_places.specs.Kept.{Kept, put_back}
use Rattle.c_tasks.specs.Operands.{Operands, operands, with_value, with_manner}
use Rattle.c_tasks.specs.Tasks.{Rest, after, to_come}
use Rattle.c_tasks.specs.Weights.{tasks_weight}
use Rattle.c_steps.specs.Steps.{with_left, coming}
use Rattle.c_steps.specs.declared.progress.Progress.TheVariants as P
use Rattle.c_interp.specs.declared.frames.Wait.{Wait}
use Rattle.c_interp.specs.declared.frames.Wait.TheVariants.{Call, Initializer}
use Rattle.c_interp.specs.declared.frames.Frame.{Frame}
use Rattle.c_interp.specs.declared.frames.Caller.{Caller}
use Rattle.c_interp.specs.declared.events.Event.{Event}
use Rattle.c_interp.specs.declared.events.Event.TheVariants as E
use Rattle.c_interp.specs.declared.events.Halt.{Halt}
use Rattle.c_interp.specs.declared.events.Halt.TheVariants as H
use Rattle.c_interp.specs.declared.engine.Engine.{Engine}

-- the number of a value, and none of a pointer: what a run returns
abbrev pub returned_number : Value → Option Number
returned_number (Num n) = Some n
returned_number Null = None
returned_number (At object cell) = None

-- ---- calls that end

-- back in the caller, with the store as the function leaves it
abbrev pub in_caller : Program → ℕ → Kept → List Value → ℕ → State ℕ
in_caller program callee kept store left = state kept.locals (put_back callee (objects_of program) kept.cells store) left

-- a body came to its end: a function that has a result must have returned it
abbrev pub fallen_off : Bool → State ℕ → Outcome ℕ (Option Number)
fallen_off true s = Trapped NoReturn s.kept
fallen_off false s = Done None s

-- whether a function has a result
abbrev pub gives_result : Option CType → Bool
gives_result None = false
gives_result (Some result) = true

abbrev pub come_back : Program → ℕ → Bool → Kept → Outcome ℕ Value → Outcome ℕ (Option Number)
come_back program callee returns kept (Done v s) = fallen_off returns (in_caller program callee kept s.store s.kept)
come_back program callee returns kept (Returning n store left) = Done n (in_caller program callee kept store left)
come_back program callee returns kept (Trapped why left) = Trapped why left
come_back program callee returns kept Cut = Cut
come_back program callee returns kept Deep = Deep

-- ---- activations that wait

-- an activation goes on with what its call or its initializer came to
abbrev pub resumed_by : Program → Wait → Rest → Operands → Outcome ℕ Value → Outcome ℕ Value
resumed_by program (Call callee returns kept) next on o = go_on (λ result. next (with_value (result_value result) on)) (come_back program callee returns kept o)
resumed_by program Initializer next on o = go_on (λ _. next (with_manner Normally on)) o

abbrev pub resumed : Program → Frame → Outcome ℕ Value → Outcome ℕ Value
resumed program frame = resumed_by program frame.wait (after program frame.depth frame.work.tasks.items) (operands frame.work)

-- the first activation of all only calls
abbrev pub bottom : Outcome ℕ Value → Outcome ℕ (Option Number)
bottom (Done v s) = Returning (returned_number v) s.store s.kept
bottom (Returning n store left) = Returning n store left
bottom (Trapped why left) = Trapped why left
bottom Cut = Cut
bottom Deep = Deep

-- the frames, the one that waits longest first
abbrev pub whole_from : (Outcome ℕ Value → Outcome ℕ (Option Number)) → Program → List Frame → Outcome ℕ Value → Outcome ℕ (Option Number)
whole_from last program [] o = last o
whole_from last program (frame ∷ frames) o = whole_from (λ q. last (resumed program frame q)) program frames o

abbrev pub whole : Program → List Frame → Outcome ℕ Value → Outcome ℕ (Option Number)
whole program frames o = whole_from bottom program frames o

-- ---- a run

-- what is still to come of a run, where so many steps are left
abbrev pub going : Program → Engine → ℕ → Outcome ℕ (Option Number)
going program engine left = whole program engine.frames.items (to_come program engine.depth engine.work (with_left engine.cells left))

-- the same where an event is next
abbrev pub happening : Program → Event → Engine → ℕ → Outcome ℕ (Option Number)
happening program (E.Calls function height) engine left = whole program engine.frames.items (coming program engine.depth (P.Calls function height) engine.work (with_left engine.cells left))
happening program (E.Tests s) engine left = whole program engine.frames.items (coming program engine.depth (P.Tests s) engine.work (with_left engine.cells left))
happening program (E.Returns number) engine left = Returning number engine.cells.store left
happening program (E.Traps why) engine left = Trapped why left

abbrev pub happening_next : Program → Option Event → Engine → ℕ → Outcome ℕ (Option Number)
happening_next program None engine left = going program engine left
happening_next program (Some event) engine left = happening program event engine left

-- the end of a run
abbrev pub halted : Halt → List Value → ℕ → Outcome ℕ (Option Number)
halted (H.Returned number) store left = Returning number store left
halted (H.Trapped why) store left = Trapped why left
halted H.Cut store left = Cut
halted H.Deep store left = Deep

-- a run, of which this was still to come, has ended or has taken one of the steps that were left
abbrev pub HasStepped : Program → Option Halt → Engine → ℕ → Outcome ℕ (Option Number) → Type 0
HasStepped program (Some halt) engine left o = halted halt engine.cells.store left ≡ o
HasStepped program None engine left o = (0 < left) × (going program engine (left - 1) ≡ o)

-- ---- returns

-- a caller goes on with the result of its call
abbrev pub on_result : Program → Caller → Option Number → Doing ℕ Value
on_result program caller number = after program caller.depth caller.work.tasks.items (with_value (result_value number) (operands caller.work))

-- after the return of the last call its caller goes on
abbrev pub HasReturned : List Frame → List Frame → Caller → Type 0
HasReturned frames rest caller =
    (program : Program) (number : Option Number) (store : List Value) (left : ℕ) →
    whole program frames (Returning number store left) ≡
    whole program rest (on_result program caller number (in_caller program caller.callee caller.saved store left))

-- no activation waits for a call
abbrev pub HasNoCall : List Frame → Type 0
HasNoCall frames =
    (program : Program) (number : Option Number) (store : List Value) (left : ℕ) →
    whole program frames (Returning number store left) ≡ Returning number store left

-- ---- how much is still to be done before the next step is taken

abbrev pub frames_weight : List Frame → ℕ
frames_weight [] = 0
frames_weight (frame ∷ frames) = 2 + tasks_weight frame.work.tasks.items + frames_weight frames

abbrev pub engine_weight : Engine → ℕ
engine_weight engine = tasks_weight engine.work.tasks.items + frames_weight engine.frames.items
