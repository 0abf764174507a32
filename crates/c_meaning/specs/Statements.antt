-- What statements do (C 6.8), and initializers (C 6.7.9).
use Rattle.std.specs.Prelude.{List, [], ◌∷◌, ◌++◌, map, get_or, set, take, drop, Bool, true, false, ◌||◌, if◌then◌else◌, Option, Some, None, Result, Ok, Err, ℤ, pos, neg_ℤ, unwrap_or}
use Rattle.rvt_num.specs.Number.{Number}
use Rattle.rvt_num.specs.Kinds.{promoted_kind}
use Rattle.rvt_num.specs.Wrapping.{wrapped}
use Rattle.rvt_num.specs.Operations.{binary_of, converted, int_eq}
use Rattle.rvt_num.specs.declared.operations.BinOp.{BinOp}
use Rattle.rvt_num.specs.declared.operations.BinOp.TheVariants as B
use Rattle.rvt_num.specs.declared.kinds.Kind.{Kind}
use Rattle.rvt_num.specs.declared.values.Trap.{Trap}
use Rattle.rvt_num.specs.declared.values.Value.{Value}
use Rattle.rvt_num.specs.declared.values.Value.TheVariants.{Num}
use Rattle.rvt_tree.specs.declared.expressions.Variable.{Variable}
use Rattle.rvt_tree.specs.declared.expressions.Variable.TheVariants as V
use Rattle.rvt_tree.specs.Syntax.{LvalueExpression, Expression, Action, evaluate, call_void, discard, discard_void, assign, compound_assign, advance, retreat, step, step_pointer, Initializer, initial_value, braces, Initializers, no_initializers, initializer, Statement, compound, null_statement, action, declaration, declaration_with, break_statement, continue_statement, return_statement, return_value, if_statement, if_else, while_loop, do_loop, for_loop, switch, Statements, no_statements, statement, Groups, no_groups, labelled}
use Rattle.rvt_tree.specs.declared.statements.Bump.{Bump}
use Rattle.rvt_tree.specs.declared.statements.Bump.TheVariants.{UpAfter, DownAfter, UpBefore, DownBefore}
use Rattle.rvt_tree.specs.declared.statements.Label.{Label}
use Rattle.rvt_tree.specs.declared.statements.Label.TheVariants.{Case, Default}
use Rattle.rvt_tree.specs.declared.programs.Program.{Program}
use Rattle.c_meaning.specs.Outcomes.{Done, Doing, Answers, Manner, Normally, Broke, Continued, give, leave, and_then, unless_trapped}
use Rattle.c_meaning.specs.Stores.{Location, number_of, cleared, write, cells_of, with_cells, moved}
use Rattle.c_meaning.specs.Expressions.{times, looked_up, place_of, value_of, values_of, condition}

abbrev pub nothing : {X : Type 0} → Doing X (Unit {0})
nothing s = Done tt s

abbrev pub put : {X : Type 0} → Program → Location → Value → Doing X (Unit {0})
put program place value s = Done tt (write program place value s)

abbrev pub put_cells : {X : Type 0} → Program → Variable → List Value → Doing X Manner
put_cells program variable cells s = Done Normally (with_cells program variable cells s)

-- the cells of a variable, each cleared
abbrev pub cleared_cells : {X : Type 0} → Program → Variable → Doing X (List Value)
cleared_cells program variable s = Done (map cleared (cells_of program variable s.locals s.store)) s

abbrev pub converted_back : Kind → Result Number Trap → Result Value Trap
converted_back kind (Ok n) = Ok (Num (converted kind n))
converted_back kind (Err why) = Err why

-- `x op= e` for an x that is worth old and an e that is worth v: computed in a kind and converted back to that of x
abbrev pub updated : BinOp → Kind → Value → Value → Result Value Trap
updated op kind old v = converted_back (number_of old).kind (binary_of op (converted kind (number_of old)) (number_of v))

abbrev pub operation : Bump → BinOp
operation UpAfter = B.Add
operation DownAfter = B.Sub
operation UpBefore = B.Add
operation DownBefore = B.Sub

abbrev pub direction : Bump → ℤ → ℤ
direction UpAfter by = by
direction DownAfter by = neg_ℤ by
direction UpBefore by = by
direction DownBefore by = neg_ℤ by

-- `++` and `--` add or subtract 1
abbrev pub bumped : Bump → Value → Result Value Trap
bumped bump old = let kind = promoted_kind (number_of old).kind in updated (operation bump) kind old (Num (wrapped kind (pos 1)))

-- what a statement goes on with: only where it ends normally
abbrev pub normally_then : {X : Type 0} → Doing X Manner → Manner → Doing X Manner
normally_then next Normally = next
normally_then next Broke = give Broke
normally_then next Continued = give Continued

-- how a loop goes on after a round of it
abbrev pub after_round : {X : Type 0} → Doing X Manner → Manner → Doing X Manner
after_round again Normally = again
after_round again Continued = again
after_round again Broke = give Normally

-- the last part of a round, which `continue` reaches too
abbrev pub after_body : {X : Type 0} → Doing X (Unit {0}) → Manner → Doing X Manner
after_body last Normally = and_then last (λ _. give Normally)
after_body last Continued = and_then last (λ _. give Normally)
after_body last Broke = give Broke

-- a `switch` takes the `break` of its groups
abbrev pub after_group : {X : Type 0} → Manner → Doing X Manner
after_group Broke = give Normally
after_group Normally = give Normally
after_group Continued = give Continued

abbrev pub is_case : Number → Label → Bool
is_case n (Case m) = int_eq n.value m.value
is_case n Default = false

abbrev pub is_default : Label → Bool
is_default (Case m) = false
is_default Default = true

abbrev pub any : (Label → Bool) → List Label → Bool
any test [] = false
any test (label ∷ labels) = test label || any test labels

abbrev pub or_else : {A : Type 0} → Option A → Option A → Option A
or_else (Some a) other = Some a
or_else None other = other

-- ---- scopes (C 6.2.1)

abbrev pub declared_variable : Statement → List Variable
declared_variable (declaration variable) = variable ∷ []
declared_variable (declaration_with variable init) = variable ∷ []
declared_variable _ = []

-- the variables that these statements themselves declare
abbrev pub declared_in : Statements → List Variable
declared_in no_statements = []
declared_in (statement s rest) = declared_variable s ++ declared_in rest

-- the locals where each of these variables that is no object is back at zero or null
abbrev pub locals_without : List Variable → List (List Value) → List (List Value)
locals_without [] locals = locals
locals_without (V.Local number ∷ rest) locals = locals_without rest (set locals number (map cleared (get_or locals number [])))
locals_without (V.Object number ∷ rest) locals = locals_without rest locals

abbrev pub left_scope : {X : Type 0} → List Variable → Manner → Doing X Manner
left_scope variables manner s = Done manner (record { locals = locals_without variables s.locals; store = s.store; kept = s.kept })

-- a part in whose scope these variables are declared: none of them is left behind it
abbrev pub in_scope : {X : Type 0} → List Variable → Doing X Manner → Doing X Manner
in_scope variables part = and_then part (left_scope variables)

module _ (program : Program) {X : Type 0} (answers : Answers X) where
  -- a place gets what is computed from what it holds and from the value of an expression
  abbrev pub replaced : LvalueExpression → Expression → (Value → Value → Result Value Trap) → Doing X (Unit {0})
  replaced lvalue e compute =
      and_then (place_of program answers lvalue) (λ place.
      and_then (looked_up program place) (λ old.
      and_then (value_of program answers e) (λ v.
      and_then (unless_trapped (compute old v)) (put program place))))

  -- the same where nothing is evaluated
  abbrev pub replaced_alone : LvalueExpression → (Value → Result Value Trap) → Doing X (Unit {0})
  replaced_alone lvalue compute =
      and_then (place_of program answers lvalue) (λ place.
      and_then (looked_up program place) (λ old.
      and_then (unless_trapped (compute old)) (put program place)))

  abbrev pub act : Action → Doing X (Unit {0})
  act (evaluate e) = and_then (value_of program answers e) (λ v. nothing)
  act (call_void function arguments) = and_then (values_of program answers arguments) (λ vs. and_then (answers.call function vs) (λ result. nothing))
  act (discard e) = and_then (value_of program answers e) (λ v. nothing)
  act (discard_void function arguments) = and_then (values_of program answers arguments) (λ vs. and_then (answers.call function vs) (λ result. nothing))
  act (assign lvalue e) = and_then (place_of program answers lvalue) (λ place. and_then (value_of program answers e) (put program place))
  act (compound_assign op lvalue kind e) = replaced lvalue e (updated op kind)
  act (advance lvalue e size) = replaced lvalue e (λ old v. moved program old (times v size))
  act (retreat lvalue e size) = replaced lvalue e (λ old v. moved program old (neg_ℤ (times v size)))
  act (step bump lvalue) = replaced_alone lvalue (bumped bump)
  act (step_pointer bump lvalue size) = replaced_alone lvalue (λ old. moved program old (direction bump (pos size)))

  abbrev pub acts : List Action → Doing X (Unit {0})
  acts [] = nothing
  acts (a ∷ rest) = and_then (act a) (λ _. acts rest)

  abbrev mutual
    -- the cells that an initializer gives, where these stand in place of those that it leaves out
    pub initial_cells : Initializer → List Value → Doing X (List Value)
    initial_cells (initial_value e) zeros = and_then (value_of program answers e) (λ v. give (v ∷ drop 1 zeros))
    initial_cells (braces members) zeros = member_cells members zeros

    pub member_cells : Initializers → List Value → Doing X (List Value)
    member_cells no_initializers zeros = give zeros
    member_cells (initializer i size rest) zeros =
        and_then (initial_cells i (take size zeros)) (λ first. and_then (member_cells rest (drop size zeros)) (λ others. give (first ++ others)))

  abbrev pub test_of : Option Expression → Doing X Bool
  test_of None = give true
  test_of (Some e) = condition program answers e

  abbrev mutual
    pub meaning : Statement → Doing X Manner
    meaning (compound body) = in_scope (declared_in body) (block body)
    meaning null_statement = give Normally
    meaning (action a) = and_then (act a) (λ _. give Normally)
    meaning (declaration variable) = and_then (cleared_cells program variable) (put_cells program variable)
    -- the variable is zero while its initializer is evaluated
    meaning (declaration_with variable init) =
        and_then (cleared_cells program variable) (λ zeros.
        and_then (put_cells program variable zeros) (λ _.
        and_then (initial_cells init zeros) (put_cells program variable)))
    meaning break_statement = give Broke
    meaning continue_statement = give Continued
    meaning return_statement = leave None
    meaning (return_value e) = and_then (value_of program answers e) (λ v. leave (Some (number_of v)))
    meaning (if_statement test first) = and_then (condition program answers test) (λ b. if b then meaning first else give Normally)
    meaning (if_else test first second) = and_then (condition program answers test) (λ b. if b then meaning first else meaning second)
    meaning (while_loop number test body) = answers.loop number false (condition program answers test) (meaning body)
    meaning (do_loop number body test) = answers.loop number true (condition program answers test) (meaning body)
    meaning (for_loop number first test last body) =
        in_scope (declared_in first)
        (and_then (block first) (λ _. answers.loop number false (test_of test) (and_then (meaning body) (after_body (acts last)))))
    meaning (switch e groups) =
        and_then (value_of program answers e) (λ v.
        and_then (unwrap_or (or_else (group (any (is_case (number_of v))) groups) (group (any is_default) groups)) (give Normally)) after_group)

    -- statements in order
    pub block : Statements → Doing X Manner
    block no_statements = give Normally
    block (statement s rest) = and_then (meaning s) (normally_then (block rest))

    -- the first group whose labels meet a test
    pub group : (List Label → Bool) → Groups → Option (Doing X Manner)
    group test no_groups = None
    group test (labelled labels body rest) = if test labels then Some (in_scope (declared_in body) (block body)) else group test rest
