-- Each part of a program, under answers of which the second follow the first.
use Rattle.std.proofs.Common.{ℕ, List, [], ◌∷◌, take, drop, Bool, true, false, if◌then◌else◌, Option, Some, None, Result, refl, sym, ap, subst, pos, neg_ℤ, unwrap_or, slice_get}
use Rattle.rvt_num.specs.declared.values.Trap.{Trap}
use Rattle.rvt_num.specs.declared.values.Value.{Value}
use Rattle.rvt_tree.specs.declared.types.Pointee.TheVariants as P
use Rattle.rvt_tree.specs.declared.expressions.Variable.{Variable}
use Rattle.rvt_tree.specs.Syntax.{LvalueExpression, identifier, element, member, dereference, subscript, arrow, Expression, constant, null_pointer, value_at, address, decay, cast, plus, minus, complement, negation, binary, equal_pointers, unequal_pointers, pointer_plus, plus_pointer, pointer_minus, logical_and, logical_or, conditional, call, Arguments, no_arguments, argument, Action, evaluate, call_void, discard, discard_void, assign, compound_assign, advance, retreat, step, step_pointer, Initializer, initial_value, braces, Initializers, no_initializers, initializer, Statement, compound, null_statement, action, declaration, declaration_with, break_statement, continue_statement, return_statement, return_value, if_statement, if_else, while_loop, do_loop, for_loop, switch, Statements, no_statements, statement, Groups, no_groups, labelled}
use Rattle.rvt_tree.specs.Views.{stmt_view}
use Rattle.rvt_tree.specs.declared.statements.Stmt.{Stmt}
use Rattle.rvt_tree.specs.declared.statements.Label.{Label}
use Rattle.rvt_tree.specs.declared.programs.Program.{Program}
use Rattle.c_meaning.specs.Outcomes.{state, Outcome, Done, Returning, Trapped, Cut, Deep, Doing, Answers, Manner, Normally, Broke, Continued}
use Rattle.c_meaning.specs.Stores.{Location, number_of, holds, moved, target}
use Rattle.c_meaning.specs.Expressions.{times, looked_up, place_of, address_of, value_of, values_of, condition}
use Rattle.c_meaning.specs.Statements.{nothing, put, put_cells, cleared_cells, updated, direction, bumped, normally_then, declared_in, left_scope, in_scope, after_body, after_group, is_case, is_default, any, or_else, replaced, replaced_alone, act, acts, initial_cells, member_cells, test_of, meaning, block, group}
use Rattle.c_meaning.specs.Runs.{not_returned, body_of, back, finished, call_in, called}
use Rattle.rvt_tree.specs.declared.types.CType.{CType}
use Rattle.rvt_tree.specs.declared.programs.Function.{Function}
use Rattle.c_meaning.proofs.Tracks.{Grown, IsGood, Matched, further, settle, tracks_trap, tracks_leave, Order, Tracks, Follow, tracks_give, tracks_unless_trapped, tracks_then, tracks_if}

module _ {X Y : Type 0} (o : Order X Y) (program : Program) (answers : Answers X) (answers' : Answers Y) (f : Follow o answers answers') where
  tracks_looked_up : (place : Location) → Tracks o (looked_up program place) (looked_up program place)
  tracks_looked_up place = record { grows = λ locals store x. o.same x; follows = λ locals store x y like good. (y, refl, like) }

  tracks_put : (place : Location) (v : Value) → Tracks o (put program place v) (put program place v)
  tracks_put place v = record { grows = λ locals store x. o.same x; follows = λ locals store x y like good. (y, refl, like) }

  tracks_put_cells : (variable : Variable) (cells : List Value) → Tracks o (put_cells program variable cells) (put_cells program variable cells)
  tracks_put_cells variable cells = record { grows = λ locals store x. o.same x; follows = λ locals store x y like good. (y, refl, like) }

  tracks_cleared_cells : (variable : Variable) → Tracks o (cleared_cells program variable) (cleared_cells program variable)
  tracks_cleared_cells variable = record { grows = λ locals store x. o.same x; follows = λ locals store x y like good. (y, refl, like) }

  tracks_nothing : Tracks o nothing nothing
  tracks_nothing = record { grows = λ locals store x. o.same x; follows = λ locals store x y like good. (y, refl, like) }

  mutual
    pub tracks_place : (e : LvalueExpression) → Tracks o (place_of program answers e) (place_of program answers' e)
    tracks_place (identifier variable) = tracks_give o _
    tracks_place (element array index count size) =
        tracks_then o _ _ _ _ (tracks_place array) (λ place. tracks_then o _ _ _ _ (tracks_value index) (λ i. tracks_unless_trapped o _))
    tracks_place (member aggregate field cell) = tracks_then o _ _ _ _ (tracks_place aggregate) (λ place. tracks_give o _)
    tracks_place (dereference pointer pointee) = tracks_then o _ _ _ _ (tracks_value pointer) (λ v. tracks_unless_trapped o _)
    tracks_place (subscript pointer index pointee size) =
        tracks_then o _ _ _ _ (tracks_value pointer) (λ v. tracks_then o _ _ _ _ (tracks_value index) (λ i.
        tracks_then o _ _ _ _ (tracks_unless_trapped o (moved program v (times i size))) (λ w. tracks_unless_trapped o _)))
    tracks_place (arrow pointer structure field cell) =
        tracks_then o _ _ _ _ (tracks_value pointer) (λ v. tracks_then o _ _ _ _ (tracks_unless_trapped o (target program (P.Struct structure) v)) (λ place. tracks_give o _))

    pub tracks_address : (e : LvalueExpression) → Tracks o (address_of program answers e) (address_of program answers' e)
    tracks_address (identifier variable) = tracks_give o _
    tracks_address (element array index count size) =
        tracks_then o _ _ _ _ (tracks_place array) (λ place. tracks_then o _ _ _ _ (tracks_value index) (λ i. tracks_unless_trapped o _))
    tracks_address (member aggregate field cell) = tracks_then o _ _ _ _ (tracks_place aggregate) (λ place. tracks_give o _)
    tracks_address (dereference pointer pointee) = tracks_value pointer
    tracks_address (subscript pointer index pointee size) =
        tracks_then o _ _ _ _ (tracks_value pointer) (λ v. tracks_then o _ _ _ _ (tracks_value index) (λ i. tracks_unless_trapped o _))
    tracks_address (arrow pointer structure field cell) =
        tracks_then o _ _ _ _ (tracks_value pointer) (λ v. tracks_then o _ _ _ _ (tracks_unless_trapped o (target program (P.Struct structure) v)) (λ place. tracks_give o _))

    pub tracks_value : (e : Expression) → Tracks o (value_of program answers e) (value_of program answers' e)
    tracks_value (constant n) = tracks_give o _
    tracks_value null_pointer = tracks_give o _
    tracks_value (value_at lvalue) = tracks_then o _ _ _ _ (tracks_place lvalue) tracks_looked_up
    tracks_value (address lvalue) = tracks_address lvalue
    tracks_value (decay lvalue) = tracks_then o _ _ _ _ (tracks_place lvalue) (λ place. tracks_give o _)
    tracks_value (cast kind e) = tracks_then o _ _ _ _ (tracks_value e) (λ v. tracks_give o _)
    tracks_value (plus e) = tracks_value e
    tracks_value (minus e) = tracks_then o _ _ _ _ (tracks_value e) (λ v. tracks_give o _)
    tracks_value (complement e) = tracks_then o _ _ _ _ (tracks_value e) (λ v. tracks_give o _)
    tracks_value (negation e) = tracks_then o _ _ _ _ (tracks_value e) (λ v. tracks_give o _)
    tracks_value (binary op a b) = tracks_then o _ _ _ _ (tracks_value a) (λ v. tracks_then o _ _ _ _ (tracks_value b) (λ w. tracks_unless_trapped o _))
    tracks_value (equal_pointers a b) = tracks_then o _ _ _ _ (tracks_value a) (λ v. tracks_then o _ _ _ _ (tracks_value b) (λ w. tracks_give o _))
    tracks_value (unequal_pointers a b) = tracks_then o _ _ _ _ (tracks_value a) (λ v. tracks_then o _ _ _ _ (tracks_value b) (λ w. tracks_give o _))
    tracks_value (pointer_plus a b size) = tracks_then o _ _ _ _ (tracks_value a) (λ v. tracks_then o _ _ _ _ (tracks_value b) (λ w. tracks_unless_trapped o _))
    tracks_value (plus_pointer a b size) = tracks_then o _ _ _ _ (tracks_value a) (λ v. tracks_then o _ _ _ _ (tracks_value b) (λ w. tracks_unless_trapped o _))
    tracks_value (pointer_minus a b size) = tracks_then o _ _ _ _ (tracks_value a) (λ v. tracks_then o _ _ _ _ (tracks_value b) (λ w. tracks_unless_trapped o _))
    tracks_value (logical_and a b) =
        tracks_then o _ _ _ _ (tracks_value a) (λ v. tracks_if o (holds v) _ _ _ _ (tracks_then o _ _ _ _ (tracks_value b) (λ w. tracks_give o _)) (tracks_give o _))
    tracks_value (logical_or a b) =
        tracks_then o _ _ _ _ (tracks_value a) (λ v. tracks_if o (holds v) _ _ _ _ (tracks_give o _) (tracks_then o _ _ _ _ (tracks_value b) (λ w. tracks_give o _)))
    tracks_value (conditional test first second) =
        tracks_then o _ _ _ _ (tracks_value test) (λ v. tracks_if o (holds v) _ _ _ _ (tracks_value first) (tracks_value second))
    tracks_value (call function arguments) =
        tracks_then o _ _ _ _ (tracks_values arguments) (λ vs. tracks_then o _ _ _ _ (f.call function vs) (λ result. tracks_give o _))

    pub tracks_values : (e : Arguments) → Tracks o (values_of program answers e) (values_of program answers' e)
    tracks_values no_arguments = tracks_give o _
    tracks_values (argument e rest) = tracks_then o _ _ _ _ (tracks_value e) (λ v. tracks_then o _ _ _ _ (tracks_values rest) (λ vs. tracks_give o _))

  pub tracks_condition : (e : Expression) → Tracks o (condition program answers e) (condition program answers' e)
  tracks_condition e = tracks_then o _ _ _ _ (tracks_value e) (λ v. tracks_give o _)

  pub tracks_replaced : (lvalue : LvalueExpression) (e : Expression) (compute : Value → Value → Result Value Trap) → Tracks o (replaced program answers lvalue e compute) (replaced program answers' lvalue e compute)
  tracks_replaced lvalue e compute =
      tracks_then o _ _ _ _ (tracks_place lvalue) (λ place. tracks_then o _ _ _ _ (tracks_looked_up place) (λ old.
      tracks_then o _ _ _ _ (tracks_value e) (λ v. tracks_then o _ _ _ _ (tracks_unless_trapped o (compute old v)) (tracks_put place))))

  pub tracks_replaced_alone : (lvalue : LvalueExpression) (compute : Value → Result Value Trap) → Tracks o (replaced_alone program answers lvalue compute) (replaced_alone program answers' lvalue compute)
  tracks_replaced_alone lvalue compute =
      tracks_then o _ _ _ _ (tracks_place lvalue) (λ place. tracks_then o _ _ _ _ (tracks_looked_up place) (λ old.
      tracks_then o _ _ _ _ (tracks_unless_trapped o (compute old)) (tracks_put place)))

  pub tracks_act : (a : Action) → Tracks o (act program answers a) (act program answers' a)
  tracks_act (evaluate e) = tracks_then o _ _ _ _ (tracks_value e) (λ v. tracks_nothing)
  tracks_act (call_void function arguments) = tracks_then o _ _ _ _ (tracks_values arguments) (λ vs. tracks_then o _ _ _ _ (f.call function vs) (λ result. tracks_nothing))
  tracks_act (discard e) = tracks_then o _ _ _ _ (tracks_value e) (λ v. tracks_nothing)
  tracks_act (discard_void function arguments) = tracks_then o _ _ _ _ (tracks_values arguments) (λ vs. tracks_then o _ _ _ _ (f.call function vs) (λ result. tracks_nothing))
  tracks_act (assign lvalue e) = tracks_then o _ _ _ _ (tracks_place lvalue) (λ place. tracks_then o _ _ _ _ (tracks_value e) (tracks_put place))
  tracks_act (compound_assign op lvalue kind e) = tracks_replaced lvalue e (updated op kind)
  tracks_act (advance lvalue e size) = tracks_replaced lvalue e (λ old v. moved program old (times v size))
  tracks_act (retreat lvalue e size) = tracks_replaced lvalue e (λ old v. moved program old (neg_ℤ (times v size)))
  tracks_act (step bump lvalue) = tracks_replaced_alone lvalue (bumped bump)
  tracks_act (step_pointer bump lvalue size) = tracks_replaced_alone lvalue (λ old. moved program old (direction bump (pos size)))

  pub tracks_acts : (all : List Action) → Tracks o (acts program answers all) (acts program answers' all)
  tracks_acts [] = tracks_nothing
  tracks_acts (a ∷ rest) = tracks_then o _ _ _ _ (tracks_act a) (λ _. tracks_acts rest)

  mutual
    pub tracks_initial : (i : Initializer) (zeros : List Value) → Tracks o (initial_cells program answers i zeros) (initial_cells program answers' i zeros)
    tracks_initial (initial_value e) zeros = tracks_then o _ _ _ _ (tracks_value e) (λ v. tracks_give o _)
    tracks_initial (braces members) zeros = tracks_members members zeros

    pub tracks_members : (i : Initializers) (zeros : List Value) → Tracks o (member_cells program answers i zeros) (member_cells program answers' i zeros)
    tracks_members no_initializers zeros = tracks_give o _
    tracks_members (initializer i size rest) zeros =
        tracks_then o _ _ _ _ (tracks_initial i (take size zeros)) (λ first. tracks_then o _ _ _ _ (tracks_members rest (drop size zeros)) (λ others. tracks_give o _))

  pub tracks_test : (e : Option Expression) → Tracks o (test_of program answers e) (test_of program answers' e)
  tracks_test None = tracks_give o _
  tracks_test (Some e) = tracks_condition e

  pub tracks_normally_then : (next : Doing X Manner) (next' : Doing Y Manner) → Tracks o next next' → (manner : Manner) → Tracks o (normally_then next manner) (normally_then next' manner)
  tracks_normally_then next next' t Normally = t
  tracks_normally_then next next' t Broke = tracks_give o _
  tracks_normally_then next next' t Continued = tracks_give o _

  pub tracks_after_body : (last : Doing X (Unit {0})) (last' : Doing Y (Unit {0})) → Tracks o last last' → (manner : Manner) → Tracks o (after_body last manner) (after_body last' manner)
  tracks_after_body last last' t Normally = tracks_then o _ _ _ _ t (λ _. tracks_give o _)
  tracks_after_body last last' t Broke = tracks_give o _
  tracks_after_body last last' t Continued = tracks_then o _ _ _ _ t (λ _. tracks_give o _)

  pub tracks_after_group : (manner : Manner) → Tracks o (after_group manner) (after_group manner)
  tracks_after_group Normally = tracks_give o _
  tracks_after_group Broke = tracks_give o _
  tracks_after_group Continued = tracks_give o _

  -- a group that may be missing, on both sides or on neither
  abbrev TracksOption : Option (Doing X Manner) → Option (Doing Y Manner) → Type 0
  TracksOption None None = Unit {0}
  TracksOption None (Some m') = ⊥
  TracksOption (Some m) None = ⊥
  TracksOption (Some m) (Some m') = Tracks o m m'

  tracks_group_if : (b : Bool) (m : Doing X Manner) (m' : Doing Y Manner) (r : Option (Doing X Manner)) (r' : Option (Doing Y Manner)) → Tracks o m m' → TracksOption r r' → TracksOption (if b then Some m else r) (if b then Some m' else r')
  tracks_group_if true m m' r r' t u = t
  tracks_group_if false m m' r r' t u = u

  tracks_or_else : (r s : Option (Doing X Manner)) (r' s' : Option (Doing Y Manner)) → TracksOption r r' → TracksOption s s' → TracksOption (or_else r s) (or_else r' s')
  tracks_or_else (Some m) s (Some m') s' t u = t
  tracks_or_else (Some m) s None s' t u = absurd t
  tracks_or_else None s (Some m') s' t u = absurd t
  tracks_or_else None s None s' t u = u

  tracks_unwrap_or : (r : Option (Doing X Manner)) (r' : Option (Doing Y Manner)) (m : Doing X Manner) (m' : Doing Y Manner) → TracksOption r r' → Tracks o m m' → Tracks o (unwrap_or r m) (unwrap_or r' m')
  tracks_unwrap_or (Some n) (Some n') m m' t u = t
  tracks_unwrap_or (Some n) None m m' t u = absurd t
  tracks_unwrap_or None (Some n') m m' t u = absurd t
  tracks_unwrap_or None None m m' t u = u

  tracks_in_scope : (variables : List Variable) (m : Doing X Manner) (m' : Doing Y Manner) → Tracks o m m' → Tracks o (in_scope variables m) (in_scope variables m')
  tracks_in_scope variables m m' t =
      tracks_then o m m' (left_scope variables) (left_scope variables) t
      (λ manner. record { grows = λ locals store x. o.same x; follows = λ locals store x y like good. (y, refl, like) })

  mutual
    pub tracks_meaning : (s : Statement) → Tracks o (meaning program answers s) (meaning program answers' s)
    tracks_meaning (compound body) = tracks_in_scope (declared_in body) _ _ (tracks_block body)
    tracks_meaning null_statement = tracks_give o _
    tracks_meaning (action a) = tracks_then o _ _ _ _ (tracks_act a) (λ _. tracks_give o _)
    tracks_meaning (declaration variable) = tracks_then o _ _ _ _ (tracks_cleared_cells variable) (tracks_put_cells variable)
    tracks_meaning (declaration_with variable init) =
        tracks_then o _ _ _ _ (tracks_cleared_cells variable) (λ zeros.
        tracks_then o _ _ _ _ (tracks_put_cells variable zeros) (λ _.
        tracks_then o _ _ _ _ (tracks_initial init zeros) (tracks_put_cells variable)))
    tracks_meaning break_statement = tracks_give o _
    tracks_meaning continue_statement = tracks_give o _
    tracks_meaning return_statement = tracks_leave o None
    tracks_meaning (return_value e) = tracks_then o _ _ _ _ (tracks_value e) (λ v. tracks_leave o (Some (number_of v)))
    tracks_meaning (if_statement test first) = tracks_then o _ _ _ _ (tracks_condition test) (λ b. tracks_if o b _ _ _ _ (tracks_meaning first) (tracks_give o _))
    tracks_meaning (if_else test first second) = tracks_then o _ _ _ _ (tracks_condition test) (λ b. tracks_if o b _ _ _ _ (tracks_meaning first) (tracks_meaning second))
    tracks_meaning (while_loop number test body) = f.loop number false _ _ _ _ (tracks_condition test) (tracks_meaning body)
    tracks_meaning (do_loop number body test) = f.loop number true _ _ _ _ (tracks_condition test) (tracks_meaning body)
    tracks_meaning (for_loop number first test last body) =
        tracks_in_scope (declared_in first) _ _
        (tracks_then o _ _ _ _ (tracks_block first) (λ _. f.loop number false _ _ _ _ (tracks_test test)
        (tracks_then o _ _ _ _ (tracks_meaning body) (tracks_after_body _ _ (tracks_acts last)))))
    tracks_meaning (switch e groups) =
        tracks_then o _ _ _ _ (tracks_value e) (λ v.
        tracks_then o _ _ _ _
        (tracks_unwrap_or _ _ _ _ (tracks_or_else _ _ _ _ (tracks_group (any (is_case (number_of v))) groups) (tracks_group (any is_default) groups)) (tracks_give o _))
        tracks_after_group)

    pub tracks_block : (s : Statements) → Tracks o (block program answers s) (block program answers' s)
    tracks_block no_statements = tracks_give o _
    tracks_block (statement s rest) = tracks_then o _ _ _ _ (tracks_meaning s) (tracks_normally_then _ _ (tracks_block rest))

    tracks_group : (test : List Label → Bool) (groups : Groups) → TracksOption (group program answers test groups) (group program answers' test groups)
    tracks_group test no_groups = tt
    tracks_group test (labelled labels body rest) = tracks_group_if (test labels) _ _ _ _ (tracks_in_scope (declared_in body) _ _ (tracks_block body)) (tracks_group test rest)

  -- ---- calls and turns

  tracks_not_returned : (result : Option CType) → Tracks o (not_returned result) (not_returned result)
  tracks_not_returned None = tracks_give o _
  tracks_not_returned (Some ty) = tracks_trap o _

  tracks_body : (body : Option Stmt) → Tracks o (body_of program answers body) (body_of program answers' body)
  tracks_body None = tracks_give o _
  tracks_body (Some s) = tracks_meaning (stmt_view s)

  finished_grows : (number : ℕ) (result : Option CType) (locals : List (List Value)) (store : List Value) (x : X) (r : Outcome X Manner) → Grown o x r → Grown o x (finished program number result (state locals store x) r)
  finished_grows number result locals store x (Done manner s) grown =
      further o x s.kept (not_returned result (back program number (state locals store x) s.store s.kept)) grown ((tracks_not_returned result).grows _ _ s.kept)
  finished_grows number result locals store x (Returning n store' z) grown = grown
  finished_grows number result locals store x (Trapped why z) grown = grown
  finished_grows number result locals store x Cut grown = tt
  finished_grows number result locals store x Deep grown = tt

  finished_follows : (number : ℕ) (result : Option CType) (locals : List (List Value)) (store : List Value) (x : X) (y : Y) (r : Outcome X Manner) (r' : Outcome Y Manner) → (IsGood o r → Matched o r r') → IsGood o (finished program number result (state locals store x) r) → Matched o (finished program number result (state locals store x) r) (finished program number result (state locals store y) r')
  finished_follows number result locals store x y (Done manner s) r' h =
      let t = tracks_not_returned result in
      settle o s.kept (not_returned result (back program number (state locals store x) s.store s.kept)) _ (t.grows _ _ s.kept) (λ before good.
      let m = h before in
      subst (λ q. Matched o (not_returned result (back program number (state locals store x) s.store s.kept)) q) (sym (ap (finished program number result (state locals store y)) m.1))
      (t.follows _ _ s.kept m.0 m.2 good))
  finished_follows number result locals store x y (Returning n store' z) r' h = λ good. let m = h good in (m.0, ap (finished program number result (state locals store y)) m.1, m.2)
  finished_follows number result locals store x y (Trapped why z) r' h = λ good. let m = h good in (m.0, ap (finished program number result (state locals store y)) m.1, m.2)
  finished_follows number result locals store x y Cut r' h = λ good. λ exact. ap (finished program number result (state locals store y)) (h good exact)
  finished_follows number result locals store x y Deep r' h = λ good. λ exact. ap (finished program number result (state locals store y)) (h good exact)

  tracks_call_in : (number : ℕ) (function : Option Function) (arguments : List Value) → Tracks o (call_in program answers number function arguments) (call_in program answers' number function arguments)
  tracks_call_in number None arguments = record { grows = λ locals store x. o.same x; follows = λ locals store x y like good. (y, refl, like) }
  tracks_call_in number (Some function) arguments =
      let t = tracks_body function.body in
      record {
        grows = λ locals store x. finished_grows number function.result locals store x _ (t.grows _ _ x);
        follows = λ locals store x y like. finished_follows number function.result locals store x y _ _ (t.follows _ _ x y like);
      }

  pub tracks_called : (number : ℕ) (arguments : List Value) → Tracks o (called program answers number arguments) (called program answers' number arguments)
  tracks_called number arguments = tracks_call_in number (slice_get program.functions number) arguments
