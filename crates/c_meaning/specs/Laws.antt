-- Laws of runs.
use Rattle.std.specs.Prelude.{◌≡◌, ℕ, suc, ◌+◌, ◌<◌, ◌≤◌, List, [], map, Bool, Option}
use Rattle.rvt_num.specs.Number.{Number}
use Rattle.rvt_tree.specs.declared.pairings.Pairing.{Pairing}
use Rattle.rvt_tree.specs.Same.{ArePaired}
use Rattle.rvt_tree.specs.Syntax.{Expression, Action, Statement}
use Rattle.rvt_num.specs.declared.values.Value.{Value}
use Rattle.rvt_tree.specs.declared.programs.Program.{Program}
use Rattle.c_meaning.specs.Outcomes.{state, Outcome, Done, Returning, Trapped, Cut, Deep, Doing, Manner, and_then}
use Rattle.c_meaning.specs.Runs.{End, Ended, run, running, stepping, called, turn, spend}
use Rattle.c_meaning.specs.Tables.{Directory, Entry, Made, call_key, loop_key, under_table}
use Rattle.c_meaning.specs.Loops.{loop_of, turned, turned_in_run}
use Rattle.c_meaning.specs.Statements.{test_of, meaning, acts, after_body}
use Rattle.c_meaning.specs.Stores.{objects_of}
use Rattle.c_meaning.specs.Promises.{Part, Start, run_part, Full, function_versions, loop_versions}
use Rattle.c_meaning.specs.Twins.{StandOverOneTable, IsClosed}
use Rattle.c_meaning.specs.Logs.{Met, MetCall, MetLoop, Logged, logging, without_log, met_in, turned_logged, AllHappened, AllGiven, EndsAs}

-- more steps and more nested calls keep an end, and how many steps it took
abbrev pub MoreKeepsEnd : Program → Type 0
MoreKeepsEnd program =
    (part : Part) (start : Start) (n more d d' : ℕ) (end : End) (steps : ℕ) → d ≤ d' →
    run_part program part start n d ≡ Ended end steps → run_part program part start (n + more) d' ≡ Ended end steps

-- an end is reached with exactly the steps that it is said to take, and there is none with fewer
abbrev pub StepsExact : Program → Type 0
StepsExact program =
    (part : Part) (start : Start) (n d : ℕ) (end : End) (steps : ℕ) → run_part program part start n d ≡ Ended end steps →
    (steps ≤ n) × (run_part program part start steps d ≡ Ended end steps) ×
    ((m d' : ℕ) (end' : End) (steps' : ℕ) → m < steps → run_part program part start m d' ≡ Ended end' steps' → ⊥)

-- whatever the steps and the nested calls, two ends are one
abbrev pub OneEnd : Program → Type 0
OneEnd program =
    (part : Part) (start : Start) (n d n' d' : ℕ) (end end' : End) (steps steps' : ℕ) →
    run_part program part start n d ≡ Ended end steps → run_part program part start n' d' ≡ Ended end' steps' → (end ≡ end') × (steps ≡ steps')

-- a call that has its step, and is not too deep, does what the body does with the steps that are left
abbrev pub CallUnfolds : Program → Type 0
CallUnfolds program =
    (left d function : ℕ) (arguments : List Value) (locals : List (List Value)) (store : List Value) →
    (stepping program (suc d)).call function arguments (state locals store (suc left)) ≡ called program (stepping program d) function arguments (state locals store left)

-- no more steps are left than x
abbrev pub LeavesWithin : {A : Type 0} → ℕ → Outcome ℕ A → Type 0
LeavesWithin x (Done a s) = s.kept ≤ x
LeavesWithin x (Returning n store y) = y ≤ x
LeavesWithin x (Trapped why y) = y ≤ x
LeavesWithin x Cut = Unit {0}
LeavesWithin x Deep = Unit {0}

abbrev pub Spends : {A : Type 0} → Doing ℕ A → Type 0
Spends m = (locals : List (List Value)) (store : List Value) (x : ℕ) → LeavesWithin x (m (state locals store x))

-- a loop does one turn, and then itself
abbrev pub LoopUnfolds : Program → Type 0
LoopUnfolds program =
    (d number : ℕ) (first : Bool) (test : Doing ℕ Bool) (round : Doing ℕ Manner) (locals : List (List Value)) (store : List Value) (x : ℕ) → Spends test → Spends round →
    (stepping program d).loop number first test round (state locals store x) ≡ turn first (spend test) round ((stepping program d).loop number first test round) (state locals store x)

-- the tests and the rounds of loop statements, in a run
abbrev pub TestsSpend : Program → Type 0
TestsSpend program = (d : ℕ) (test : Option Expression) → Spends (test_of program (stepping program d) test)

abbrev pub BodiesSpend : Program → Type 0
BodiesSpend program = (d : ℕ) (body : Statement) → Spends (meaning program (stepping program d) body)

abbrev pub RoundsSpend : Program → Type 0
RoundsSpend program =
    (d : ℕ) (body : Statement) (last : List Action) → Spends (and_then (meaning program (stepping program d) body) (after_body (acts program (stepping program d) last)))

-- the call of a table for what was met
abbrev pub made : {X : Type 0} → Directory → Met X → Made
made directory (MetCall function arguments locals store before end after) =
    record { name = (directory.function function).name; key = call_key (directory.function function) arguments store }
made directory (MetLoop number locals store before end after) =
    record { name = (directory.loop number).name; key = loop_key (directory.loop number) locals store }

-- a body in a run, with the log of the calls and loop statements that it meets
abbrev pub logged_body : Program → ℕ → ℕ → ℕ → List Value → List (List Value) → List Value → ℕ → Outcome (Logged ℕ) (Option Number)
logged_body program n d function arguments locals store left =
    called program (logging (running program n d)) function arguments (state locals store (record { own = left; met = [] }))

-- that body ends as in the run; each thing met has the end that the run gives it; and under any table that gives these ends the body ends alike, and makes these calls
abbrev pub TableSees : Program → Type 0
TableSees program =
    (n d function : ℕ) (arguments : List Value) (locals : List (List Value)) (store : List Value) (left : ℕ) →
    let r = logged_body program n d function arguments locals store left in
    (without_log r ≡ called program (running program n d) function arguments (state locals store left)) ×
    AllHappened (running program n d) (met_in r) ×
    ((directory : Directory) (table : List Entry) → AllGiven (under_table directory table) (map (made directory)) [] (met_in r) →
    EndsAs (called program (running program n d) function arguments (state locals store left)) (map (made directory) (met_in r))
    (called program (under_table directory table) function arguments (state locals store [])))

-- one turn of a loop in a run, with its log
abbrev pub logged_turn : Program → ℕ → ℕ → ℕ → ℕ → List (List Value) → List Value → ℕ → Outcome (Logged ℕ) Manner
logged_turn program n d function number locals store left =
    turned_logged (running program n d) number (loop_of program (logging (running program n d)) function number) (state locals store (record { own = left; met = [] }))

-- the same as `TableSees` of one turn of a loop
abbrev pub TableSeesTurn : Program → Type 0
TableSeesTurn program =
    (n d function number : ℕ) (locals : List (List Value)) (store : List Value) (left : ℕ) →
    let r = logged_turn program n d function number locals store left in
    let turn_in_run = turned_in_run (running program n d) number (loop_of program (running program n d) function number) (state locals store left) in
    (without_log r ≡ turn_in_run) ×
    AllHappened (running program n d) (met_in r) ×
    ((directory : Directory) (table : List Entry) → AllGiven (under_table directory table) (map (made directory)) [] (met_in r) →
    EndsAs turn_in_run (map (made directory) (met_in r))
    (turned (under_table directory table) number (loop_of program (under_table directory table) function number) (state locals store [])))

-- ---- twins

-- the functions of a closed set of twins have the same runs
abbrev pub TwinsRunAlike : Pairing → Program → Program → Type 0
TwinsRunAlike pairing program program' =
    StandOverOneTable pairing program program' → IsClosed pairing program program' → (f g : ℕ) → ArePaired pairing.functions f g →
    (arguments store : List Value) (n d : ℕ) → run program f arguments store n d ≡ run program' g arguments store n d

-- so they are fully equivalent
abbrev pub TwinsAreFull : Pairing → Program → Program → Type 0
TwinsAreFull pairing program program' =
    StandOverOneTable pairing program program' → IsClosed pairing program program' → (f g : ℕ) → ArePaired pairing.functions f g →
    (reached reached' : ℕ → Bool) → Full (function_versions program program' f g reached reached')

-- and so are their loops, by their numbers
abbrev pub TwinLoopsAreFull : Pairing → Program → Program → Type 0
TwinLoopsAreFull pairing program program' =
    StandOverOneTable pairing program program' → IsClosed pairing program program' → (f g : ℕ) → ArePaired pairing.functions f g →
    (number : ℕ) (interface : List ℕ) (reached reached' : ℕ → Bool) → Full (loop_versions program program' f g number interface reached reached')

-- a pairing of functions alone, and two programs without objects
pub record IsPlain (pairing : Pairing) (program program' : Program) : Type 0 where
  pub no_pairs : pairing.objects ≡ []
  pub no_structs : pairing.structs ≡ []
  pub no_objects : objects_of program ≡ []
  pub no_objects' : objects_of program' ≡ []

abbrev pub PlainTwinsAreFull : Pairing → Program → Program → Type 0
PlainTwinsAreFull pairing program program' =
    IsPlain pairing program program' → IsClosed pairing program program' → (f g : ℕ) → ArePaired pairing.functions f g →
    (reached reached' : ℕ → Bool) → Full (function_versions program program' f g reached reached')
