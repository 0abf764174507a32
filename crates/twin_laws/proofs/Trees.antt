-- Two parts of a program that are the same under a pairing do the same, where paired functions give the same answers and pointers touch only what is paired.
use Rattle.std.proofs.Common.{◌≡◌, ℕ, List, [], ◌∷◌, ◌++◌, take, drop, nat_lt, Bool, true, false, if◌then◌else◌, IsTrue, All, Option, Some, None, Result, Ok, Err, refl, ap, ap₂, ◌∙◌, subst, ℤ, pos, negsuc, neg_ℤ}
use Rattle.std.proofs.lemmas.List.Elements.{All-nil, All-cons, All-append, All-take, All-drop}
use Rattle.rvt_num.specs.Number.{Number}
use Rattle.rvt_num.specs.Operations.{binary_of, converted}
use Rattle.rvt_num.specs.declared.kinds.Kind.{Kind}
use Rattle.rvt_num.specs.declared.values.Trap.{Trap}
use Rattle.rvt_num.specs.declared.values.Trap.TheVariants as T
use Rattle.rvt_num.specs.declared.values.Value.{Value}
use Rattle.rvt_num.specs.declared.values.Value.TheVariants.{Num}
use Rattle.rvt_tree.specs.declared.types.Pointee.{Pointee}
use Rattle.rvt_tree.specs.declared.types.Pointee.TheVariants as P
use Rattle.rvt_tree.specs.declared.expressions.Variable.{Variable}
use Rattle.rvt_tree.specs.declared.statements.Label.{Label}
use Rattle.rvt_tree.specs.declared.pairings.Pairing.{Pairing}
use Rattle.rvt_tree.specs.declared.programs.Program.{Program}
use Rattle.rvt_tree.specs.Syntax.{LvalueExpression, identifier, element, member, dereference, subscript, arrow, Expression, constant, null_pointer, value_at, address, decay, cast, plus, minus, complement, negation, binary, equal_pointers, unequal_pointers, pointer_plus, plus_pointer, pointer_minus, logical_and, logical_or, conditional, call, Arguments, no_arguments, argument, Action, evaluate, call_void, discard, discard_void, assign, compound_assign, advance, retreat, step, step_pointer, Initializer, initial_value, braces, Initializers, no_initializers, initializer, Statement, compound, null_statement, action, declaration, declaration_with, break_statement, continue_statement, return_statement, return_value, if_statement, if_else, while_loop, do_loop, for_loop, switch, Statements, no_statements, statement, Groups, no_groups, labelled}
use Rattle.rvt_tree.specs.Same.{ArePaired, SameLvalue, SameExpression, SameArguments, SameAction, SameActions, SameInitializer, SameInitializers, SameTest, SameStatement, SameStatements, SameGroups}
use Rattle.body_pointees.specs.Pointees.{place_pointees, address_pointees, expression_pointees, arguments_pointees, action_pointees, actions_pointees, initializer_pointees, members_pointees, test_pointees, statement_pointees, statements_pointees, groups_pointees}
use Rattle.c_meaning.specs.Outcomes.{Doing, Answers, Manner, give, leave, and_then, unless_trapped}
use Rattle.c_meaning.specs.Stores.{Location, number_of, holds, beyond, element_at, moved, pointer_to}
use Rattle.c_meaning.specs.Expressions.{as_value, operated, times, result_value, place_of, address_of, value_of, values_of, condition}
use Rattle.c_meaning.specs.Statements.{converted_back, updated, direction, bumped, declared_variable, declared_in, in_scope, is_case, is_default, any, replaced, replaced_alone, act, acts, initial_cells, member_cells, test_of, meaning, block, group}
use Rattle.twin_laws.specs.Touches.{TouchesPaired, PointsOpenly}
use Rattle.twin_laws.proofs.Alike.{Each, first_part, last_part, Anything, WhereOk, Alike, give_alike, unless_alike, then_alike, if_alike, normally_alike, body_alike, group_alike, AlikeOption, either_alike, found_alike, picked_alike}
use Rattle.twin_laws.proofs.Objects.{OneTable, IsPlaced, variable_same, named, moved_same, moved_open, target_alike, placed_open, looked_up_alike, put_alike, put_cells_alike, cleared_cells_alike, left_scope_alike}

-- nothing is both
pub apart : IsTrue false → ⊥
apart h = absurd (cc)

module _ (pairing : Pairing) (program program' : Program) (one : OneTable pairing program program') where
  abbrev pub Opens : Value → Type 0
  Opens = PointsOpenly pairing program

  abbrev pub Touch : Pointee → Type 0
  Touch = TouchesPaired pairing program

  abbrev Placed : Location → Type 0
  Placed = IsPlaced pairing program program' one

  number_open : (r : Result Number Trap) → WhereOk Opens (as_value r)
  number_open (Ok n) = tt
  number_open (Err why) = tt

  back_open : (kind : Kind) (r : Result Number Trap) → WhereOk Opens (converted_back kind r)
  back_open kind (Ok n) = tt
  back_open kind (Err why) = tt

  result_open : (result : Option Number) → Opens (result_value result)
  result_open (Some n) = tt
  result_open None = tt

  further_placed : (place : Location) (b : Bool) (by : ℕ) → Placed place → WhereOk Placed (if b then Ok (beyond by place) else Err T.Index)
  further_placed place true by h = h
  further_placed place false by h = tt

  element_placed : (place : Location) (i : ℤ) (count size : ℕ) → Placed place → WhereOk Placed (element_at place i count size)
  element_placed place (pos i) count size h = further_placed place (nat_lt i count) _ h
  element_placed place (negsuc i) count size h = tt

  module _ {X : Type 0} (answers answers' : Answers X)
      (calls : (f g : ℕ) → ArePaired pairing.functions f g → (arguments : List Value) → All Opens arguments → Alike Opens Anything (answers.call f arguments) (answers'.call g arguments))
      (loops : (number : ℕ) (first : Bool) (test test' : Doing X Bool) (round round' : Doing X Manner) → Alike Opens Anything test test' → Alike Opens Anything round round' →
      Alike Opens Anything (answers.loop number first test round) (answers'.loop number first test' round')) where
    -- first one part and then, with its value, the next
    seq : {A B : Type 0} {Gives : A → Type 0} {Gives' : B → Type 0} (m m' : Doing X A) (next next' : A → Doing X B) →
        Alike Opens Gives m m' → ((a : A) → Gives a → Alike Opens Gives' (next a) (next' a)) → Alike Opens Gives' (and_then m next) (and_then m' next')
    seq {Gives = Gives} {Gives' = Gives'} m m' next next' t u = then_alike Opens Gives Gives' m m' next next' t u

    -- the same number and so on: no pointer
    plain : (v v' : Value) → v ≡ v' → Opens v → Alike Opens {X = X} Opens (give v) (give v')
    plain v v' e o = give_alike Opens Opens v v' e o

    moved_by : (v i : Value) (size size' : ℕ) → size ≡ size' → Opens v → Alike Opens {X = X} Opens (unless_trapped (moved program v (times i size))) (unless_trapped (moved program' v (times i size')))
    moved_by v i size size' e o =
        unless_alike Opens Opens _ _ (moved_same pairing program program' one v _ ∙ ap (λ k. moved program' v (times i k)) e) (moved_open pairing program program' one v (times i size) o)

    moved_back : (v i : Value) (size size' : ℕ) → size ≡ size' → Opens v → Alike Opens {X = X} Opens (unless_trapped (moved program v (neg_ℤ (times i size)))) (unless_trapped (moved program' v (neg_ℤ (times i size'))))
    moved_back v i size size' e o =
        unless_alike Opens Opens _ _ (moved_same pairing program program' one v _ ∙ ap (λ k. moved program' v (neg_ℤ (times i k))) e) (moved_open pairing program program' one v (neg_ℤ (times i size)) o)

    mutual
      pub place_alike : (e e' : LvalueExpression) → SameLvalue pairing e e' → Each Touch (place_pointees e) → Alike Opens Placed (place_of program answers e) (place_of program' answers' e')
      place_alike (identifier variable) (identifier variable') h t =
          give_alike Opens Placed _ _ (ap (λ u. record { variable = u; cell = 0 }) (variable_same pairing program program' one variable variable' h)) (named pairing program program' one variable variable' h)
      place_alike (identifier variable) _ h t = absurd h
      place_alike (element array index count size) (element array' index' count' size') h t =
          seq _ _ _ _ (place_alike array array' h.0 (first_part Touch (place_pointees array) (expression_pointees index) t)) (λ place placed.
          seq _ _ _ _ (value_alike index index' h.1 (last_part Touch (place_pointees array) (expression_pointees index) t)) (λ i _.
          unless_alike Opens Placed _ _ (ap₂ (λ n k. element_at place (number_of i).value n k) h.2 h.3) (element_placed place (number_of i).value count size placed)))
      place_alike (element array index count size) _ h t = absurd h
      place_alike (member aggregate field cell) (member aggregate' field' cell') h t =
          seq _ _ _ _ (place_alike aggregate aggregate' h.0 t) (λ place placed. give_alike Opens Placed _ _ (ap (λ k. beyond k place) h.2) placed)
      place_alike (member aggregate field cell) _ h t = absurd h
      place_alike (dereference pointer pointee) (dereference pointer' pointee') h t =
          seq _ _ _ _ (value_alike pointer pointer' h.0 (first_part Touch (expression_pointees pointer) (pointee ∷ []) t)) (λ v o.
          target_alike pairing program program' one pointee pointee' h.1 (last_part Touch (expression_pointees pointer) (pointee ∷ []) t).0 v o)
      place_alike (dereference pointer pointee) _ h t = absurd h
      place_alike (subscript pointer index pointee size) (subscript pointer' index' pointee' size') h t =
          let both = first_part Touch (expression_pointees pointer ++ expression_pointees index) (pointee ∷ []) t in
          let touch = (last_part Touch (expression_pointees pointer ++ expression_pointees index) (pointee ∷ []) t).0 in
          seq _ _ _ _ (value_alike pointer pointer' h.0 (first_part Touch (expression_pointees pointer) (expression_pointees index) both)) (λ v o.
          seq _ _ _ _ (value_alike index index' h.1 (last_part Touch (expression_pointees pointer) (expression_pointees index) both)) (λ i _.
          seq _ _ _ _ (moved_by v i size size' h.3 o) (λ u o'. target_alike pairing program program' one pointee pointee' h.2 touch u o')))
      place_alike (subscript pointer index pointee size) _ h t = absurd h
      place_alike (arrow pointer structure field cell) (arrow pointer' structure' field' cell') h t =
          let touch = (last_part Touch (expression_pointees pointer) (P.Struct structure ∷ []) t).0 in
          seq _ _ _ _ (value_alike pointer pointer' h.0 (first_part Touch (expression_pointees pointer) (P.Struct structure ∷ []) t)) (λ v o.
          seq _ _ _ _ (target_alike pairing program program' one (P.Struct structure) (P.Struct structure') h.1 touch v o) (λ place placed.
          give_alike Opens Placed _ _ (ap (λ k. beyond k place) h.3) placed))
      place_alike (arrow pointer structure field cell) _ h t = absurd h

      pub address_alike : (e e' : LvalueExpression) → SameLvalue pairing e e' → Each Touch (address_pointees e) → Alike Opens Opens (address_of program answers e) (address_of program' answers' e')
      address_alike (identifier variable) (identifier variable') h t =
          plain _ _ (ap (λ u. pointer_to (record { variable = u; cell = 0 })) (variable_same pairing program program' one variable variable' h))
          (placed_open pairing program program' one (record { variable = variable; cell = 0 }) (named pairing program program' one variable variable' h))
      address_alike (identifier variable) _ h t = absurd h
      address_alike (element array index count size) (element array' index' count' size') h t =
          seq _ _ _ _ (place_alike array array' h.0 (first_part Touch (place_pointees array) (expression_pointees index) t)) (λ place placed.
          seq _ _ _ _ (value_alike index index' h.1 (last_part Touch (place_pointees array) (expression_pointees index) t)) (λ i _.
          moved_by (pointer_to place) i size size' h.3 (placed_open pairing program program' one place placed)))
      address_alike (element array index count size) _ h t = absurd h
      address_alike (member aggregate field cell) (member aggregate' field' cell') h t =
          seq _ _ _ _ (place_alike aggregate aggregate' h.0 t) (λ place placed.
          plain _ _ (ap (λ k. pointer_to (beyond k place)) h.2) (placed_open pairing program program' one (beyond cell place) placed))
      address_alike (member aggregate field cell) _ h t = absurd h
      address_alike (dereference pointer pointee) (dereference pointer' pointee') h t = value_alike pointer pointer' h.0 t
      address_alike (dereference pointer pointee) _ h t = absurd h
      address_alike (subscript pointer index pointee size) (subscript pointer' index' pointee' size') h t =
          seq _ _ _ _ (value_alike pointer pointer' h.0 (first_part Touch (expression_pointees pointer) (expression_pointees index) t)) (λ v o.
          seq _ _ _ _ (value_alike index index' h.1 (last_part Touch (expression_pointees pointer) (expression_pointees index) t)) (λ i _. moved_by v i size size' h.3 o))
      address_alike (subscript pointer index pointee size) _ h t = absurd h
      address_alike (arrow pointer structure field cell) (arrow pointer' structure' field' cell') h t =
          let touch = (last_part Touch (expression_pointees pointer) (P.Struct structure ∷ []) t).0 in
          seq _ _ _ _ (value_alike pointer pointer' h.0 (first_part Touch (expression_pointees pointer) (P.Struct structure ∷ []) t)) (λ v o.
          seq _ _ _ _ (target_alike pairing program program' one (P.Struct structure) (P.Struct structure') h.1 touch v o) (λ place placed.
          plain _ _ (ap (λ k. pointer_to (beyond k place)) h.3) (placed_open pairing program program' one (beyond cell place) placed)))
      address_alike (arrow pointer structure field cell) _ h t = absurd h

      pub value_alike : (e e' : Expression) → SameExpression pairing e e' → Each Touch (expression_pointees e) → Alike Opens Opens (value_of program answers e) (value_of program' answers' e')
      value_alike (constant n) (constant n') h t = plain _ _ (ap Num h) tt
      value_alike (constant n) _ h t = absurd h
      value_alike null_pointer null_pointer h t = plain _ _ refl tt
      value_alike null_pointer _ h t = absurd (apart h)
      value_alike (value_at place) (value_at place') h t = seq _ _ _ _ (place_alike place place' h t) (λ at_place placed. looked_up_alike pairing program program' one at_place placed)
      value_alike (value_at place) _ h t = absurd h
      value_alike (address place) (address place') h t = address_alike place place' h t
      value_alike (address place) _ h t = absurd h
      value_alike (decay place) (decay place') h t = seq _ _ _ _ (place_alike place place' h t) (λ at_place placed. plain _ _ refl (placed_open pairing program program' one at_place placed))
      value_alike (decay place) _ h t = absurd h
      value_alike (cast kind e) (cast kind' e') h t = seq _ _ _ _ (value_alike e e' h.1 t) (λ v _. plain _ _ (ap (λ k. Num (converted k (number_of v))) h.0) tt)
      value_alike (cast kind e) _ h t = absurd h
      value_alike (plus e) (plus e') h t = value_alike e e' h t
      value_alike (plus e) _ h t = absurd h
      value_alike (minus e) (minus e') h t = seq _ _ _ _ (value_alike e e' h t) (λ v _. plain _ _ refl tt)
      value_alike (minus e) _ h t = absurd h
      value_alike (complement e) (complement e') h t = seq _ _ _ _ (value_alike e e' h t) (λ v _. plain _ _ refl tt)
      value_alike (complement e) _ h t = absurd h
      value_alike (negation e) (negation e') h t = seq _ _ _ _ (value_alike e e' h t) (λ v _. plain _ _ refl tt)
      value_alike (negation e) _ h t = absurd h
      value_alike (binary op a b) (binary op' a' b') h t =
          seq _ _ _ _ (value_alike a a' h.1 (first_part Touch (expression_pointees a) (expression_pointees b) t)) (λ v _.
          seq _ _ _ _ (value_alike b b' h.2 (last_part Touch (expression_pointees a) (expression_pointees b) t)) (λ u _.
          unless_alike Opens Opens _ _ (ap (λ o. operated o v u) h.0) (number_open (binary_of op (number_of v) (number_of u)))))
      value_alike (binary op a b) _ h t = absurd h
      value_alike (equal_pointers a b) (equal_pointers a' b') h t =
          seq _ _ _ _ (value_alike a a' h.0 (first_part Touch (expression_pointees a) (expression_pointees b) t)) (λ v _.
          seq _ _ _ _ (value_alike b b' h.1 (last_part Touch (expression_pointees a) (expression_pointees b) t)) (λ u _. plain _ _ refl tt))
      value_alike (equal_pointers a b) _ h t = absurd h
      value_alike (unequal_pointers a b) (unequal_pointers a' b') h t =
          seq _ _ _ _ (value_alike a a' h.0 (first_part Touch (expression_pointees a) (expression_pointees b) t)) (λ v _.
          seq _ _ _ _ (value_alike b b' h.1 (last_part Touch (expression_pointees a) (expression_pointees b) t)) (λ u _. plain _ _ refl tt))
      value_alike (unequal_pointers a b) _ h t = absurd h
      value_alike (pointer_plus a b size) (pointer_plus a' b' size') h t =
          seq _ _ _ _ (value_alike a a' h.0 (first_part Touch (expression_pointees a) (expression_pointees b) t)) (λ v o.
          seq _ _ _ _ (value_alike b b' h.1 (last_part Touch (expression_pointees a) (expression_pointees b) t)) (λ u _. moved_by v u size size' h.2 o))
      value_alike (pointer_plus a b size) _ h t = absurd h
      value_alike (plus_pointer a b size) (plus_pointer a' b' size') h t =
          seq _ _ _ _ (value_alike a a' h.0 (first_part Touch (expression_pointees a) (expression_pointees b) t)) (λ v _.
          seq _ _ _ _ (value_alike b b' h.1 (last_part Touch (expression_pointees a) (expression_pointees b) t)) (λ u p. moved_by u v size size' h.2 p))
      value_alike (plus_pointer a b size) _ h t = absurd h
      value_alike (pointer_minus a b size) (pointer_minus a' b' size') h t =
          seq _ _ _ _ (value_alike a a' h.0 (first_part Touch (expression_pointees a) (expression_pointees b) t)) (λ v o.
          seq _ _ _ _ (value_alike b b' h.1 (last_part Touch (expression_pointees a) (expression_pointees b) t)) (λ u _. moved_back v u size size' h.2 o))
      value_alike (pointer_minus a b size) _ h t = absurd h
      value_alike (logical_and a b) (logical_and a' b') h t =
          seq _ _ _ _ (value_alike a a' h.0 (first_part Touch (expression_pointees a) (expression_pointees b) t)) (λ v _.
          if_alike Opens Opens (holds v) _ _ _ _ (seq _ _ _ _ (value_alike b b' h.1 (last_part Touch (expression_pointees a) (expression_pointees b) t)) (λ u _. plain _ _ refl tt)) (plain _ _ refl tt))
      value_alike (logical_and a b) _ h t = absurd h
      value_alike (logical_or a b) (logical_or a' b') h t =
          seq _ _ _ _ (value_alike a a' h.0 (first_part Touch (expression_pointees a) (expression_pointees b) t)) (λ v _.
          if_alike Opens Opens (holds v) _ _ _ _ (plain _ _ refl tt) (seq _ _ _ _ (value_alike b b' h.1 (last_part Touch (expression_pointees a) (expression_pointees b) t)) (λ u _. plain _ _ refl tt)))
      value_alike (logical_or a b) _ h t = absurd h
      value_alike (conditional test a b) (conditional test' a' b') h t =
          let before = first_part Touch (expression_pointees test ++ expression_pointees a) (expression_pointees b) t in
          seq _ _ _ _ (value_alike test test' h.0 (first_part Touch (expression_pointees test) (expression_pointees a) before)) (λ v _.
          if_alike Opens Opens (holds v) _ _ _ _
          (value_alike a a' h.1 (last_part Touch (expression_pointees test) (expression_pointees a) before))
          (value_alike b b' h.2 (last_part Touch (expression_pointees test ++ expression_pointees a) (expression_pointees b) t)))
      value_alike (conditional test a b) _ h t = absurd h
      value_alike (call function arguments) (call function' arguments') h t =
          seq _ _ _ _ (values_alike arguments arguments' h.1 t) (λ vs os. seq _ _ _ _ (calls function function' h.0 vs os) (λ result _. plain _ _ refl (result_open result)))
      value_alike (call function arguments) _ h t = absurd h

      pub values_alike : (e e' : Arguments) → SameArguments pairing e e' → Each Touch (arguments_pointees e) → Alike Opens (All Opens) (values_of program answers e) (values_of program' answers' e')
      values_alike no_arguments no_arguments h t = give_alike Opens (All Opens) _ _ refl (All-nil Opens)
      values_alike no_arguments (argument e' rest') h t = absurd h
      values_alike (argument e rest) no_arguments h t = absurd h
      values_alike (argument e rest) (argument e' rest') h t =
          seq _ _ _ _ (value_alike e e' h.0 (first_part Touch (expression_pointees e) (arguments_pointees rest) t)) (λ v o.
          seq _ _ _ _ (values_alike rest rest' h.1 (last_part Touch (expression_pointees e) (arguments_pointees rest) t)) (λ vs os.
          give_alike Opens (All Opens) _ _ refl (All-cons Opens v vs o os)))

    pub condition_alike : (e e' : Expression) → SameExpression pairing e e' → Each Touch (expression_pointees e) → Alike Opens Anything (condition program answers e) (condition program' answers' e')
    condition_alike e e' h t = seq _ _ _ _ (value_alike e e' h t) (λ v _. give_alike Opens Anything _ _ refl tt)

    leave_alike : (n : Option Number) → Alike Opens {X = X} {A = Manner} Anything (leave n) (leave n)
    leave_alike n = record { same = λ s held. refl; leaves = λ s held. held.store }

    -- ---- acts

    replaced_alike : (place place' : LvalueExpression) (e e' : Expression) (compute compute' : Value → Value → Result Value Trap) → SameLvalue pairing place place' → SameExpression pairing e e' →
        Each Touch (place_pointees place ++ expression_pointees e) →
        ((old v : Value) → compute old v ≡ compute' old v) → ((old v : Value) → Opens old → WhereOk Opens (compute old v)) →
        Alike Opens Anything (replaced program answers place e compute) (replaced program' answers' place' e' compute')
    replaced_alike place place' e e' compute compute' h k t same opens =
        seq _ _ _ _ (place_alike place place' h (first_part Touch (place_pointees place) (expression_pointees e) t)) (λ at_place placed.
        seq _ _ _ _ (looked_up_alike pairing program program' one at_place placed) (λ old o.
        seq _ _ _ _ (value_alike e e' k (last_part Touch (place_pointees place) (expression_pointees e) t)) (λ v _.
        seq _ _ _ _ (unless_alike Opens Opens _ _ (same old v) (opens old v o)) (λ w o'. put_alike pairing program program' one at_place placed w o'))))

    replaced_alone_alike : (place place' : LvalueExpression) (compute compute' : Value → Result Value Trap) → SameLvalue pairing place place' → Each Touch (place_pointees place) →
        ((old : Value) → compute old ≡ compute' old) → ((old : Value) → Opens old → WhereOk Opens (compute old)) →
        Alike Opens Anything (replaced_alone program answers place compute) (replaced_alone program' answers' place' compute')
    replaced_alone_alike place place' compute compute' h t same opens =
        seq _ _ _ _ (place_alike place place' h t) (λ at_place placed.
        seq _ _ _ _ (looked_up_alike pairing program program' one at_place placed) (λ old o.
        seq _ _ _ _ (unless_alike Opens Opens _ _ (same old) (opens old o)) (λ w o'. put_alike pairing program program' one at_place placed w o')))

    pub act_alike : (a a' : Action) → SameAction pairing a a' → Each Touch (action_pointees a) → Alike Opens Anything (act program answers a) (act program' answers' a')
    act_alike (evaluate e) (evaluate e') h t = seq _ _ _ _ (value_alike e e' h t) (λ v _. give_alike Opens Anything _ _ refl tt)
    act_alike (evaluate e) _ h t = absurd h
    act_alike (discard e) (discard e') h t = seq _ _ _ _ (value_alike e e' h t) (λ v _. give_alike Opens Anything _ _ refl tt)
    act_alike (discard e) _ h t = absurd h
    act_alike (call_void function arguments) (call_void function' arguments') h t =
        seq _ _ _ _ (values_alike arguments arguments' h.1 t) (λ vs os. seq _ _ _ _ (calls function function' h.0 vs os) (λ result _. give_alike Opens Anything _ _ refl tt))
    act_alike (call_void function arguments) _ h t = absurd h
    act_alike (discard_void function arguments) (discard_void function' arguments') h t =
        seq _ _ _ _ (values_alike arguments arguments' h.1 t) (λ vs os. seq _ _ _ _ (calls function function' h.0 vs os) (λ result _. give_alike Opens Anything _ _ refl tt))
    act_alike (discard_void function arguments) _ h t = absurd h
    act_alike (assign place e) (assign place' e') h t =
        seq _ _ _ _ (place_alike place place' h.0 (first_part Touch (place_pointees place) (expression_pointees e) t)) (λ at_place placed.
        seq _ _ _ _ (value_alike e e' h.1 (last_part Touch (place_pointees place) (expression_pointees e) t)) (λ v o. put_alike pairing program program' one at_place placed v o))
    act_alike (assign place e) _ h t = absurd h
    act_alike (compound_assign op place kind e) (compound_assign op' place' kind' e') h t =
        replaced_alike place place' e e' _ _ h.1 h.3 t (λ old v. ap₂ (λ o k. updated o k old v) h.0 h.2) (λ old v _. back_open (number_of old).kind (binary_of op (converted kind (number_of old)) (number_of v)))
    act_alike (compound_assign op place kind e) _ h t = absurd h
    act_alike (advance place e size) (advance place' e' size') h t =
        replaced_alike place place' e e' _ _ h.0 h.1 t
        (λ old v. moved_same pairing program program' one old _ ∙ ap (λ k. moved program' old (times v k)) h.2) (λ old v o. moved_open pairing program program' one old (times v size) o)
    act_alike (advance place e size) _ h t = absurd h
    act_alike (retreat place e size) (retreat place' e' size') h t =
        replaced_alike place place' e e' _ _ h.0 h.1 t
        (λ old v. moved_same pairing program program' one old _ ∙ ap (λ k. moved program' old (neg_ℤ (times v k))) h.2) (λ old v o. moved_open pairing program program' one old (neg_ℤ (times v size)) o)
    act_alike (retreat place e size) _ h t = absurd h
    act_alike (step bump place) (step bump' place') h t =
        replaced_alone_alike place place' _ _ h.1 t (λ old. ap (λ b. bumped b old) h.0) (λ old _. back_open (number_of old).kind _)
    act_alike (step bump place) _ h t = absurd h
    act_alike (step_pointer bump place size) (step_pointer bump' place' size') h t =
        replaced_alone_alike place place' _ _ h.1 t
        (λ old. moved_same pairing program program' one old _ ∙ ap₂ (λ b k. moved program' old (direction b (pos k))) h.0 h.2) (λ old o. moved_open pairing program program' one old (direction bump (pos size)) o)
    act_alike (step_pointer bump place size) _ h t = absurd h

    pub acts_alike : (all all' : List Action) → SameActions pairing all all' → Each Touch (actions_pointees all) → Alike Opens Anything (acts program answers all) (acts program' answers' all')
    acts_alike [] [] h t = give_alike Opens Anything _ _ refl tt
    acts_alike [] (a' ∷ rest') h t = absurd h
    acts_alike (a ∷ rest) [] h t = absurd h
    acts_alike (a ∷ rest) (a' ∷ rest') h t =
        seq _ _ _ _ (act_alike a a' h.0 (first_part Touch (action_pointees a) (actions_pointees rest) t)) (λ _ _. acts_alike rest rest' h.1 (last_part Touch (action_pointees a) (actions_pointees rest) t))

    -- ---- initializers

    mutual
      pub initial_alike : (i i' : Initializer) → SameInitializer pairing i i' → Each Touch (initializer_pointees i) → (zeros : List Value) → All Opens zeros →
          Alike Opens (All Opens) (initial_cells program answers i zeros) (initial_cells program' answers' i' zeros)
      initial_alike (initial_value e) (initial_value e') h t zeros all =
          seq _ _ _ _ (value_alike e e' h t) (λ v o. give_alike Opens (All Opens) _ _ refl (All-cons Opens v (drop 1 zeros) o (All-drop Opens 1 zeros all)))
      initial_alike (initial_value e) _ h t zeros all = absurd h
      initial_alike (braces members) (braces members') h t zeros all = members_alike members members' h t zeros all
      initial_alike (braces members) _ h t zeros all = absurd h

      pub members_alike : (i i' : Initializers) → SameInitializers pairing i i' → Each Touch (members_pointees i) → (zeros : List Value) → All Opens zeros →
          Alike Opens (All Opens) (member_cells program answers i zeros) (member_cells program' answers' i' zeros)
      members_alike no_initializers no_initializers h t zeros all = give_alike Opens (All Opens) _ _ refl all
      members_alike no_initializers (initializer i' size' rest') h t zeros all = absurd h
      members_alike (initializer i size rest) no_initializers h t zeros all = absurd h
      members_alike (initializer i size rest) (initializer i' size' rest') h t zeros all =
          subst (λ k. Alike Opens (All Opens) (member_cells program answers (initializer i size rest) zeros) (member_cells program' answers' (initializer i' k rest') zeros)) h.1
          (seq _ _ _ _ (initial_alike i i' h.0 (first_part Touch (initializer_pointees i) (members_pointees rest) t) (take size zeros) (All-take Opens size zeros all)) (λ first o.
          seq _ _ _ _ (members_alike rest rest' h.2 (last_part Touch (initializer_pointees i) (members_pointees rest) t) (drop size zeros) (All-drop Opens size zeros all)) (λ others os.
          give_alike Opens (All Opens) _ _ refl (All-append Opens first others o os))))

    pub test_alike : (e e' : Option Expression) → SameTest pairing e e' → Each Touch (test_pointees e) → Alike Opens Anything (test_of program answers e) (test_of program' answers' e')
    test_alike None None h t = give_alike Opens Anything _ _ refl tt
    test_alike None (Some e') h t = absurd h
    test_alike (Some e) None h t = absurd h
    test_alike (Some e) (Some e') h t = condition_alike e e' h t

    -- ---- statements

    same_declared_variable : (s s' : Statement) → SameStatement pairing s s' → declared_variable s ≡ declared_variable s'
    same_declared_variable (compound body) (compound body') h = refl
    same_declared_variable (compound body) _ h = absurd h
    same_declared_variable (action a) (action a') h = refl
    same_declared_variable (action a) _ h = absurd h
    same_declared_variable (declaration variable) (declaration variable') h = ap (λ v. v ∷ []) (variable_same pairing program program' one variable variable' h)
    same_declared_variable (declaration variable) _ h = absurd h
    same_declared_variable (declaration_with variable init) (declaration_with variable' init') h = ap (λ v. v ∷ []) (variable_same pairing program program' one variable variable' h.0)
    same_declared_variable (declaration_with variable init) _ h = absurd h
    same_declared_variable (return_value e) (return_value e') h = refl
    same_declared_variable (return_value e) _ h = absurd h
    same_declared_variable (if_statement test first) (if_statement test' first') h = refl
    same_declared_variable (if_statement test first) _ h = absurd h
    same_declared_variable (if_else test first second) (if_else test' first' second') h = refl
    same_declared_variable (if_else test first second) _ h = absurd h
    same_declared_variable (while_loop number test body) (while_loop number' test' body') h = refl
    same_declared_variable (while_loop number test body) _ h = absurd h
    same_declared_variable (do_loop number body test) (do_loop number' body' test') h = refl
    same_declared_variable (do_loop number body test) _ h = absurd h
    same_declared_variable (for_loop number first test last body) (for_loop number' first' test' last' body') h = refl
    same_declared_variable (for_loop number first test last body) _ h = absurd h.0
    same_declared_variable (switch e groups) (switch e' groups') h = refl
    same_declared_variable (switch e groups) _ h = absurd h
    same_declared_variable null_statement null_statement h = refl
    same_declared_variable null_statement _ h = absurd (apart h)
    same_declared_variable break_statement break_statement h = refl
    same_declared_variable break_statement _ h = absurd (apart h)
    same_declared_variable continue_statement continue_statement h = refl
    same_declared_variable continue_statement _ h = absurd (apart h)
    same_declared_variable return_statement return_statement h = refl
    same_declared_variable return_statement _ h = absurd (apart h)

    pub same_declared : (s s' : Statements) → SameStatements pairing s s' → declared_in s ≡ declared_in s'
    same_declared no_statements no_statements h = refl
    same_declared no_statements (statement s' rest') h = absurd h
    same_declared (statement s rest) no_statements h = absurd h
    same_declared (statement s rest) (statement s' rest') h = ap₂ (λ a b. a ++ b) (same_declared_variable s s' h.0) (same_declared rest rest' h.1)

    loop_alike : (number number' : ℕ) (first : Bool) (test test' : Doing X Bool) (round round' : Doing X Manner) → number ≡ number' → Alike Opens Anything test test' → Alike Opens Anything round round' →
        Alike Opens Anything (answers.loop number first test round) (answers'.loop number' first test' round')
    loop_alike number number' first test test' round round' e t r =
        subst (λ k. Alike Opens Anything (answers.loop number first test round) (answers'.loop k first test' round')) e (loops number first test test' round round' t r)

    scope_alike : (variables variables' : List Variable) (m m' : Doing X Manner) → variables ≡ variables' → Alike Opens Anything m m' → Alike Opens Anything (in_scope variables m) (in_scope variables' m')
    scope_alike variables variables' m m' e t =
        subst (λ vs. Alike Opens Anything (in_scope variables m) (in_scope vs m')) e (seq _ _ _ _ t (λ manner _. left_scope_alike pairing program program' one variables manner))

    mutual
      pub meaning_alike : (s s' : Statement) → SameStatement pairing s s' → Each Touch (statement_pointees s) → Alike Opens Anything (meaning program answers s) (meaning program' answers' s')
      meaning_alike (compound body) (compound body') h t = scope_alike _ _ _ _ (same_declared body body' h) (block_alike body body' h t)
      meaning_alike (compound body) _ h t = absurd h
      meaning_alike (action a) (action a') h t = seq _ _ _ _ (act_alike a a' h t) (λ _ _. give_alike Opens Anything _ _ refl tt)
      meaning_alike (action a) _ h t = absurd h
      meaning_alike (declaration variable) (declaration variable') h t =
          subst (λ u. Alike Opens Anything (meaning program answers (declaration variable)) (meaning program' answers' (declaration u))) (variable_same pairing program program' one variable variable' h)
          (seq _ _ _ _ (cleared_cells_alike pairing program program' one variable (named pairing program program' one variable variable' h)) (λ cells all. put_cells_alike pairing program program' one variable cells all))
      meaning_alike (declaration variable) _ h t = absurd h
      meaning_alike (declaration_with variable init) (declaration_with variable' init') h t =
          subst (λ u. Alike Opens Anything (meaning program answers (declaration_with variable init)) (meaning program' answers' (declaration_with u init'))) (variable_same pairing program program' one variable variable' h.0)
          (seq _ _ _ _ (cleared_cells_alike pairing program program' one variable (named pairing program program' one variable variable' h.0)) (λ zeros all.
          seq _ _ _ _ (put_cells_alike pairing program program' one variable zeros all) (λ _ _.
          seq _ _ _ _ (initial_alike init init' h.1 t zeros all) (λ cells all'. put_cells_alike pairing program program' one variable cells all'))))
      meaning_alike (declaration_with variable init) _ h t = absurd h
      meaning_alike (return_value e) (return_value e') h t = seq _ _ _ _ (value_alike e e' h t) (λ v _. leave_alike (Some (number_of v)))
      meaning_alike (return_value e) _ h t = absurd h
      meaning_alike (if_statement test first) (if_statement test' first') h t =
          seq _ _ _ _ (condition_alike test test' h.0 (first_part Touch (expression_pointees test) (statement_pointees first) t)) (λ b _.
          if_alike Opens Anything b _ _ _ _ (meaning_alike first first' h.1 (last_part Touch (expression_pointees test) (statement_pointees first) t)) (give_alike Opens Anything _ _ refl tt))
      meaning_alike (if_statement test first) _ h t = absurd h
      meaning_alike (if_else test first second) (if_else test' first' second') h t =
          let before = first_part Touch (expression_pointees test ++ statement_pointees first) (statement_pointees second) t in
          seq _ _ _ _ (condition_alike test test' h.0 (first_part Touch (expression_pointees test) (statement_pointees first) before)) (λ b _.
          if_alike Opens Anything b _ _ _ _
          (meaning_alike first first' h.1 (last_part Touch (expression_pointees test) (statement_pointees first) before))
          (meaning_alike second second' h.2 (last_part Touch (expression_pointees test ++ statement_pointees first) (statement_pointees second) t)))
      meaning_alike (if_else test first second) _ h t = absurd h
      meaning_alike (while_loop number test body) (while_loop number' test' body') h t =
          loop_alike _ _ false _ _ _ _ h.0 (condition_alike test test' h.1 (first_part Touch (expression_pointees test) (statement_pointees body) t))
          (meaning_alike body body' h.2 (last_part Touch (expression_pointees test) (statement_pointees body) t))
      meaning_alike (while_loop number test body) _ h t = absurd h
      meaning_alike (do_loop number body test) (do_loop number' body' test') h t =
          loop_alike _ _ true _ _ _ _ h.0 (condition_alike test test' h.2 (last_part Touch (statement_pointees body) (expression_pointees test) t))
          (meaning_alike body body' h.1 (first_part Touch (statement_pointees body) (expression_pointees test) t))
      meaning_alike (do_loop number body test) _ h t = absurd h
      meaning_alike (for_loop number first test last body) (for_loop number' first' test' last' body') h t =
          let header = first_part Touch (statements_pointees first ++ test_pointees test ++ actions_pointees last) (statement_pointees body) t in
          let tests = first_part Touch (statements_pointees first ++ test_pointees test) (actions_pointees last) header in
          scope_alike _ _ _ _ (same_declared first first' h.0.1)
          (seq _ _ _ _ (block_alike first first' h.0.1 (first_part Touch (statements_pointees first) (test_pointees test) tests)) (λ _ _.
          loop_alike _ _ false _ _ _ _ h.0.0 (test_alike test test' h.1.0 (last_part Touch (statements_pointees first) (test_pointees test) tests))
          (seq _ _ _ _ (meaning_alike body body' h.0.2 (last_part Touch (statements_pointees first ++ test_pointees test ++ actions_pointees last) (statement_pointees body) t)) (λ manner _.
          body_alike Opens _ _ (acts_alike last last' h.1.1 (last_part Touch (statements_pointees first ++ test_pointees test) (actions_pointees last) header)) manner))))
      meaning_alike (for_loop number first test last body) _ h t = absurd h.0
      meaning_alike (switch e groups) (switch e' groups') h t =
          let inner = last_part Touch (expression_pointees e) (groups_pointees groups) t in
          seq _ _ _ _ (value_alike e e' h.0 (first_part Touch (expression_pointees e) (groups_pointees groups) t)) (λ v _.
          seq _ _ _ _ (found_alike Opens _ _ (either_alike Opens _ _ _ _ (groups_alike (any (is_case (number_of v))) groups groups' h.1 inner) (groups_alike (any is_default) groups groups' h.1 inner))) (λ manner _.
          group_alike Opens manner))
      meaning_alike (switch e groups) _ h t = absurd h
      meaning_alike null_statement null_statement h t = give_alike Opens Anything _ _ refl tt
      meaning_alike null_statement _ h t = absurd (apart h)
      meaning_alike break_statement break_statement h t = give_alike Opens Anything _ _ refl tt
      meaning_alike break_statement _ h t = absurd (apart h)
      meaning_alike continue_statement continue_statement h t = give_alike Opens Anything _ _ refl tt
      meaning_alike continue_statement _ h t = absurd (apart h)
      meaning_alike return_statement return_statement h t = leave_alike None
      meaning_alike return_statement _ h t = absurd (apart h)

      pub block_alike : (s s' : Statements) → SameStatements pairing s s' → Each Touch (statements_pointees s) → Alike Opens Anything (block program answers s) (block program' answers' s')
      block_alike no_statements no_statements h t = give_alike Opens Anything _ _ refl tt
      block_alike no_statements (statement s' rest') h t = absurd h
      block_alike (statement s rest) no_statements h t = absurd h
      block_alike (statement s rest) (statement s' rest') h t =
          seq _ _ _ _ (meaning_alike s s' h.0 (first_part Touch (statement_pointees s) (statements_pointees rest) t)) (λ manner _.
          normally_alike Opens _ _ (block_alike rest rest' h.1 (last_part Touch (statement_pointees s) (statements_pointees rest) t)) manner)

      groups_alike : (test : List Label → Bool) (groups groups' : Groups) → SameGroups pairing groups groups' → Each Touch (groups_pointees groups) →
          AlikeOption Opens (group program answers test groups) (group program' answers' test groups')
      groups_alike test no_groups no_groups h t = tt
      groups_alike test no_groups (labelled labels' body' rest') h t = absurd h
      groups_alike test (labelled labels body rest) no_groups h t = absurd h
      groups_alike test (labelled labels body rest) (labelled labels' body' rest') h t =
          subst (λ l. AlikeOption Opens (group program answers test (labelled labels body rest)) (group program' answers' test (labelled l body' rest'))) h.0
          (picked_alike Opens (test labels) _ _ _ _
          (scope_alike _ _ _ _ (same_declared body body' h.1) (block_alike body body' h.1 (first_part Touch (statements_pointees body) (groups_pointees rest) t)))
          (groups_alike test rest rest' h.2 (last_part Touch (statements_pointees body) (groups_pointees rest) t)))
