-- Two parts of a program that are the same under a pairing do the same, where paired functions give the same answers and objects stand in one table.
use Rattle.std.proofs.Common.{◌≡◌, ℕ, List, [], ◌∷◌, ◌++◌, take, drop, Bool, true, false, if◌then◌else◌, IsTrue, Option, Some, None, Result, refl, ap, ap₂, ◌∙◌, pos, neg_ℤ, unwrap_or}
use mathlib.Core.Path.{fun_ext}
use Rattle.rvt_num.specs.Operations.{converted}
use Rattle.rvt_num.specs.declared.values.Trap.{Trap}
use Rattle.rvt_num.specs.declared.values.Value.{Value}
use Rattle.rvt_num.specs.declared.values.Value.TheVariants.{Num}
use Rattle.rvt_tree.specs.declared.types.Pointee.TheVariants as P
use Rattle.rvt_tree.specs.declared.expressions.Variable.{Variable}
use Rattle.rvt_tree.specs.declared.statements.Label.{Label}
use Rattle.rvt_tree.specs.declared.pairings.Pairing.{Pairing}
use Rattle.rvt_tree.specs.declared.programs.Program.{Program}
use Rattle.rvt_tree.specs.Syntax.{LvalueExpression, identifier, element, member, dereference, subscript, arrow, Expression, constant, null_pointer, value_at, address, decay, cast, plus, minus, complement, negation, binary, equal_pointers, unequal_pointers, pointer_plus, plus_pointer, pointer_minus, logical_and, logical_or, conditional, call, Arguments, no_arguments, argument, Action, evaluate, call_void, discard, discard_void, assign, compound_assign, advance, retreat, step, step_pointer, Initializer, initial_value, braces, Initializers, no_initializers, initializer, Statement, compound, null_statement, action, declaration, declaration_with, break_statement, continue_statement, return_statement, return_value, if_statement, if_else, while_loop, do_loop, for_loop, switch, Statements, no_statements, statement, Groups, no_groups, labelled}
use Rattle.rvt_tree.specs.Same.{ArePaired, SameLvalue, SameExpression, SameArguments, SameAction, SameActions, SameInitializer, SameInitializers, SameTest, SameStatement, SameStatements, SameGroups}
use Rattle.c_meaning.specs.Outcomes.{Doing, Answers, Manner, Normally, give, and_then, unless_trapped}
use Rattle.c_meaning.specs.Stores.{number_of, holds, beyond, element_at, moved, pointer_to}
use Rattle.c_meaning.specs.Expressions.{operated, times, place_of, address_of, value_of, values_of, condition}
use Rattle.c_meaning.specs.Statements.{updated, direction, bumped, declared_variable, declared_in, in_scope, normally_then, after_body, is_case, is_default, any, or_else, replaced, replaced_alone, act, acts, initial_cells, member_cells, test_of, meaning, block, group}
use Rattle.c_meaning.specs.Twins.{StandOverOneTable}
use Rattle.c_meaning.proofs.OneTable.{looked_up_same, put_same, put_cells_same, cleared_cells_same, moved_same, target_same, variable_same}

-- first one part and then, with its value, the next
pub then_same : {X A B : Type 0} (m m' : Doing X A) (next next' : A → Doing X B) → m ≡ m' → ((a : A) → next a ≡ next' a) → and_then m next ≡ and_then m' next'
then_same m m' next next' e h = ap₂ (λ p n. and_then p n) e (fun_ext h)

-- nothing is both
pub apart : IsTrue false → ⊥
apart h = absurd (cc)

pub if_same : {A : Type 0} (b : Bool) (m m' n n' : A) → m ≡ m' → n ≡ n' → (if b then m else n) ≡ (if b then m' else n')
if_same true m m' n n' e h = e
if_same false m m' n n' e h = h

module _ (pairing : Pairing) (program program' : Program) (one : StandOverOneTable pairing program program') {X : Type 0} (answers answers' : Answers X)
    (calls : (f g : ℕ) → ArePaired pairing.functions f g → (arguments : List Value) → answers.call f arguments ≡ answers'.call g arguments)
    (loops : (number : ℕ) (first : Bool) (test : Doing X Bool) (round : Doing X Manner) → answers.loop number first test round ≡ answers'.loop number first test round) where
  moved_by : (v i : Value) (size size' : ℕ) → size ≡ size' → moved program v (times i size) ≡ moved program' v (times i size')
  moved_by v i size size' e = moved_same pairing program program' one v _ ∙ ap (λ k. moved program' v (times i k)) e

  moved_back : (v i : Value) (size size' : ℕ) → size ≡ size' → moved program v (neg_ℤ (times i size)) ≡ moved program' v (neg_ℤ (times i size'))
  moved_back v i size size' e = moved_same pairing program program' one v _ ∙ ap (λ k. moved program' v (neg_ℤ (times i k))) e

  mutual
    pub same_place : (e e' : LvalueExpression) → SameLvalue pairing e e' → place_of program answers e ≡ place_of program' answers' e'
    same_place (identifier variable) (identifier variable') h = ap (λ u. give (record { variable = u; cell = 0 })) (variable_same pairing program program' one variable variable' h)
    same_place (identifier variable) _ h = absurd h
    same_place (element array index count size) (element array' index' count' size') h =
        then_same _ _ _ _ (same_place array array' h.0) (λ place. then_same _ _ _ _ (same_value index index' h.1) (λ i.
        ap₂ (λ n k. unless_trapped (element_at place (number_of i).value n k)) h.2 h.3))
    same_place (element array index count size) _ h = absurd h
    same_place (member aggregate field cell) (member aggregate' field' cell') h = then_same _ _ _ _ (same_place aggregate aggregate' h.0) (λ place. ap (λ k. give (beyond k place)) h.2)
    same_place (member aggregate field cell) _ h = absurd h
    same_place (dereference pointer pointee) (dereference pointer' pointee') h = then_same _ _ _ _ (same_value pointer pointer' h.0) (λ v. ap unless_trapped (target_same pairing program program' one pointee pointee' h.1 v))
    same_place (dereference pointer pointee) _ h = absurd h
    same_place (subscript pointer index pointee size) (subscript pointer' index' pointee' size') h =
        then_same _ _ _ _ (same_value pointer pointer' h.0) (λ v. then_same _ _ _ _ (same_value index index' h.1) (λ i.
        then_same _ _ _ _ (ap unless_trapped (moved_by v i size size' h.3)) (λ u. ap unless_trapped (target_same pairing program program' one pointee pointee' h.2 u))))
    same_place (subscript pointer index pointee size) _ h = absurd h
    same_place (arrow pointer structure field cell) (arrow pointer' structure' field' cell') h =
        then_same _ _ _ _ (same_value pointer pointer' h.0) (λ v.
        then_same _ _ _ _ (ap unless_trapped (target_same pairing program program' one (P.Struct structure) (P.Struct structure') h.1 v)) (λ place. ap (λ k. give (beyond k place)) h.3))
    same_place (arrow pointer structure field cell) _ h = absurd h

    pub same_address : (e e' : LvalueExpression) → SameLvalue pairing e e' → address_of program answers e ≡ address_of program' answers' e'
    same_address (identifier variable) (identifier variable') h = ap (λ u. give (pointer_to (record { variable = u; cell = 0 }))) (variable_same pairing program program' one variable variable' h)
    same_address (identifier variable) _ h = absurd h
    same_address (element array index count size) (element array' index' count' size') h =
        then_same _ _ _ _ (same_place array array' h.0) (λ place. then_same _ _ _ _ (same_value index index' h.1) (λ i. ap unless_trapped (moved_by (pointer_to place) i size size' h.3)))
    same_address (element array index count size) _ h = absurd h
    same_address (member aggregate field cell) (member aggregate' field' cell') h = then_same _ _ _ _ (same_place aggregate aggregate' h.0) (λ place. ap (λ k. give (pointer_to (beyond k place))) h.2)
    same_address (member aggregate field cell) _ h = absurd h
    same_address (dereference pointer pointee) (dereference pointer' pointee') h = same_value pointer pointer' h.0
    same_address (dereference pointer pointee) _ h = absurd h
    same_address (subscript pointer index pointee size) (subscript pointer' index' pointee' size') h =
        then_same _ _ _ _ (same_value pointer pointer' h.0) (λ v. then_same _ _ _ _ (same_value index index' h.1) (λ i. ap unless_trapped (moved_by v i size size' h.3)))
    same_address (subscript pointer index pointee size) _ h = absurd h
    same_address (arrow pointer structure field cell) (arrow pointer' structure' field' cell') h =
        then_same _ _ _ _ (same_value pointer pointer' h.0) (λ v.
        then_same _ _ _ _ (ap unless_trapped (target_same pairing program program' one (P.Struct structure) (P.Struct structure') h.1 v)) (λ place. ap (λ k. give (pointer_to (beyond k place))) h.3))
    same_address (arrow pointer structure field cell) _ h = absurd h

    pub same_value : (e e' : Expression) → SameExpression pairing e e' → value_of program answers e ≡ value_of program' answers' e'
    same_value (constant n) (constant n') h = ap (λ m. give (Num m)) h
    same_value (constant n) _ h = absurd h
    same_value null_pointer null_pointer h = refl
    same_value null_pointer _ h = absurd (apart h)
    same_value (value_at place) (value_at place') h = then_same _ _ _ _ (same_place place place' h) (looked_up_same pairing program program' one)
    same_value (value_at place) _ h = absurd h
    same_value (address place) (address place') h = same_address place place' h
    same_value (address place) _ h = absurd h
    same_value (decay place) (decay place') h = then_same _ _ _ _ (same_place place place' h) (λ at_place. refl)
    same_value (decay place) _ h = absurd h
    same_value (cast kind e) (cast kind' e') h = then_same _ _ _ _ (same_value e e' h.1) (λ v. ap (λ k. give (Num (converted k (number_of v)))) h.0)
    same_value (cast kind e) _ h = absurd h
    same_value (plus e) (plus e') h = same_value e e' h
    same_value (plus e) _ h = absurd h
    same_value (minus e) (minus e') h = then_same _ _ _ _ (same_value e e' h) (λ v. refl)
    same_value (minus e) _ h = absurd h
    same_value (complement e) (complement e') h = then_same _ _ _ _ (same_value e e' h) (λ v. refl)
    same_value (complement e) _ h = absurd h
    same_value (negation e) (negation e') h = then_same _ _ _ _ (same_value e e' h) (λ v. refl)
    same_value (negation e) _ h = absurd h
    same_value (binary op a b) (binary op' a' b') h = then_same _ _ _ _ (same_value a a' h.1) (λ v. then_same _ _ _ _ (same_value b b' h.2) (λ u. ap (λ o. unless_trapped (operated o v u)) h.0))
    same_value (binary op a b) _ h = absurd h
    same_value (equal_pointers a b) (equal_pointers a' b') h = then_same _ _ _ _ (same_value a a' h.0) (λ v. then_same _ _ _ _ (same_value b b' h.1) (λ u. refl))
    same_value (equal_pointers a b) _ h = absurd h
    same_value (unequal_pointers a b) (unequal_pointers a' b') h = then_same _ _ _ _ (same_value a a' h.0) (λ v. then_same _ _ _ _ (same_value b b' h.1) (λ u. refl))
    same_value (unequal_pointers a b) _ h = absurd h
    same_value (pointer_plus a b size) (pointer_plus a' b' size') h = then_same _ _ _ _ (same_value a a' h.0) (λ v. then_same _ _ _ _ (same_value b b' h.1) (λ u. ap unless_trapped (moved_by v u size size' h.2)))
    same_value (pointer_plus a b size) _ h = absurd h
    same_value (plus_pointer a b size) (plus_pointer a' b' size') h = then_same _ _ _ _ (same_value a a' h.0) (λ v. then_same _ _ _ _ (same_value b b' h.1) (λ u. ap unless_trapped (moved_by u v size size' h.2)))
    same_value (plus_pointer a b size) _ h = absurd h
    same_value (pointer_minus a b size) (pointer_minus a' b' size') h = then_same _ _ _ _ (same_value a a' h.0) (λ v. then_same _ _ _ _ (same_value b b' h.1) (λ u. ap unless_trapped (moved_back v u size size' h.2)))
    same_value (pointer_minus a b size) _ h = absurd h
    same_value (logical_and a b) (logical_and a' b') h =
        then_same _ _ _ _ (same_value a a' h.0) (λ v. if_same (holds v) _ _ _ _ (then_same _ _ _ _ (same_value b b' h.1) (λ u. refl)) refl)
    same_value (logical_and a b) _ h = absurd h
    same_value (logical_or a b) (logical_or a' b') h =
        then_same _ _ _ _ (same_value a a' h.0) (λ v. if_same (holds v) _ _ _ _ refl (then_same _ _ _ _ (same_value b b' h.1) (λ u. refl)))
    same_value (logical_or a b) _ h = absurd h
    same_value (conditional test first second) (conditional test' first' second') h =
        then_same _ _ _ _ (same_value test test' h.0) (λ v. if_same (holds v) _ _ _ _ (same_value first first' h.1) (same_value second second' h.2))
    same_value (conditional test first second) _ h = absurd h
    same_value (call function arguments) (call function' arguments') h =
        then_same _ _ _ _ (same_values arguments arguments' h.1) (λ vs. then_same _ _ _ _ (calls function function' h.0 vs) (λ result. refl))
    same_value (call function arguments) _ h = absurd h

    pub same_values : (e e' : Arguments) → SameArguments pairing e e' → values_of program answers e ≡ values_of program' answers' e'
    same_values no_arguments no_arguments h = refl
    same_values no_arguments (argument e' rest') h = absurd h
    same_values (argument e rest) no_arguments h = absurd h
    same_values (argument e rest) (argument e' rest') h =
        then_same _ _ _ _ (same_value e e' h.0) (λ v. then_same _ _ _ _ (same_values rest rest' h.1) (λ vs. refl))

  pub same_condition : (e e' : Expression) → SameExpression pairing e e' → condition program answers e ≡ condition program' answers' e'
  same_condition e e' h = then_same _ _ _ _ (same_value e e' h) (λ v. refl)

  same_replaced : (place place' : LvalueExpression) (e e' : Expression) (compute compute' : Value → Value → Result Value Trap) → SameLvalue pairing place place' → SameExpression pairing e e' →
      ((old v : Value) → compute old v ≡ compute' old v) → replaced program answers place e compute ≡ replaced program' answers' place' e' compute'
  same_replaced place place' e e' compute compute' h k same =
      then_same _ _ _ _ (same_place place place' h) (λ at_place. then_same _ _ _ _ (looked_up_same pairing program program' one at_place) (λ old.
      then_same _ _ _ _ (same_value e e' k) (λ v. then_same _ _ _ _ (ap unless_trapped (same old v)) (put_same pairing program program' one at_place))))

  same_replaced_alone : (place place' : LvalueExpression) (compute compute' : Value → Result Value Trap) → SameLvalue pairing place place' →
      ((old : Value) → compute old ≡ compute' old) → replaced_alone program answers place compute ≡ replaced_alone program' answers' place' compute'
  same_replaced_alone place place' compute compute' h same =
      then_same _ _ _ _ (same_place place place' h) (λ at_place. then_same _ _ _ _ (looked_up_same pairing program program' one at_place) (λ old.
      then_same _ _ _ _ (ap unless_trapped (same old)) (put_same pairing program program' one at_place)))

  pub same_act : (a a' : Action) → SameAction pairing a a' → act program answers a ≡ act program' answers' a'
  same_act (evaluate e) (evaluate e') h = then_same _ _ _ _ (same_value e e' h) (λ v. refl)
  same_act (evaluate e) _ h = absurd h
  same_act (call_void function arguments) (call_void function' arguments') h = then_same _ _ _ _ (same_values arguments arguments' h.1) (λ vs. then_same _ _ _ _ (calls function function' h.0 vs) (λ result. refl))
  same_act (call_void function arguments) _ h = absurd h
  same_act (discard e) (discard e') h = then_same _ _ _ _ (same_value e e' h) (λ v. refl)
  same_act (discard e) _ h = absurd h
  same_act (discard_void function arguments) (discard_void function' arguments') h = then_same _ _ _ _ (same_values arguments arguments' h.1) (λ vs. then_same _ _ _ _ (calls function function' h.0 vs) (λ result. refl))
  same_act (discard_void function arguments) _ h = absurd h
  same_act (assign place e) (assign place' e') h = then_same _ _ _ _ (same_place place place' h.0) (λ at_place. then_same _ _ _ _ (same_value e e' h.1) (put_same pairing program program' one at_place))
  same_act (assign place e) _ h = absurd h
  same_act (compound_assign op place kind e) (compound_assign op' place' kind' e') h = same_replaced place place' e e' _ _ h.1 h.3 (λ old v. ap₂ (λ o k. updated o k old v) h.0 h.2)
  same_act (compound_assign op place kind e) _ h = absurd h
  same_act (advance place e size) (advance place' e' size') h = same_replaced place place' e e' _ _ h.0 h.1 (λ old v. moved_by old v size size' h.2)
  same_act (advance place e size) _ h = absurd h
  same_act (retreat place e size) (retreat place' e' size') h = same_replaced place place' e e' _ _ h.0 h.1 (λ old v. moved_back old v size size' h.2)
  same_act (retreat place e size) _ h = absurd h
  same_act (step bump place) (step bump' place') h = same_replaced_alone place place' _ _ h.1 (λ old. ap (λ b. bumped b old) h.0)
  same_act (step bump place) _ h = absurd h
  same_act (step_pointer bump place size) (step_pointer bump' place' size') h = same_replaced_alone place place' _ _ h.1 (λ old. moved_same pairing program program' one old _ ∙ ap₂ (λ b k. moved program' old (direction b (pos k))) h.0 h.2)
  same_act (step_pointer bump place size) _ h = absurd h

  pub same_acts : (all all' : List Action) → SameActions pairing all all' → acts program answers all ≡ acts program' answers' all'
  same_acts [] [] h = refl
  same_acts [] (a' ∷ rest') h = absurd h
  same_acts (a ∷ rest) [] h = absurd h
  same_acts (a ∷ rest) (a' ∷ rest') h = then_same _ _ _ _ (same_act a a' h.0) (λ _. same_acts rest rest' h.1)

  mutual
    pub same_initial : (i i' : Initializer) → SameInitializer pairing i i' → (zeros : List Value) → initial_cells program answers i zeros ≡ initial_cells program' answers' i' zeros
    same_initial (initial_value e) (initial_value e') h zeros = then_same _ _ _ _ (same_value e e' h) (λ v. refl)
    same_initial (initial_value e) _ h zeros = absurd h
    same_initial (braces members) (braces members') h zeros = same_members members members' h zeros
    same_initial (braces members) _ h zeros = absurd h

    pub same_members : (i i' : Initializers) → SameInitializers pairing i i' → (zeros : List Value) → member_cells program answers i zeros ≡ member_cells program' answers' i' zeros
    same_members no_initializers no_initializers h zeros = refl
    same_members no_initializers (initializer i' size' rest') h zeros = absurd h
    same_members (initializer i size rest) no_initializers h zeros = absurd h
    same_members (initializer i size rest) (initializer i' size' rest') h zeros =
        ap (λ k. member_cells program answers (initializer i k rest) zeros) h.1
        ∙ then_same _ _ _ _ (same_initial i i' h.0 (take size' zeros)) (λ first. then_same _ _ _ _ (same_members rest rest' h.2 (drop size' zeros)) (λ others. refl))

  pub same_test : (e e' : Option Expression) → SameTest pairing e e' → test_of program answers e ≡ test_of program' answers' e'
  same_test None None h = refl
  same_test None (Some e') h = absurd h
  same_test (Some e) None h = absurd h
  same_test (Some e) (Some e') h = same_condition e e' h

  -- the same variables are declared

  same_declared_variable : (s s' : Statement) → SameStatement pairing s s' → declared_variable s ≡ declared_variable s'
  same_declared_variable (compound body) (compound body') h = refl
  same_declared_variable (compound body) _ h = absurd h
  same_declared_variable (action a) (action a') h = refl
  same_declared_variable (action a) _ h = absurd h
  same_declared_variable (declaration variable) (declaration variable') h = ap (λ v. v ∷ []) (variable_same pairing program program' one variable variable' h)
  same_declared_variable (declaration variable) _ h = absurd h
  same_declared_variable (declaration_with variable init) (declaration_with variable' init') h = ap (λ v. v ∷ []) (variable_same pairing program program' one variable variable' h.0)
  same_declared_variable (declaration_with variable init) _ h = absurd h
  same_declared_variable (return_value e) (return_value e') h = refl
  same_declared_variable (return_value e) _ h = absurd h
  same_declared_variable (if_statement test first) (if_statement test' first') h = refl
  same_declared_variable (if_statement test first) _ h = absurd h
  same_declared_variable (if_else test first second) (if_else test' first' second') h = refl
  same_declared_variable (if_else test first second) _ h = absurd h
  same_declared_variable (while_loop number test body) (while_loop number' test' body') h = refl
  same_declared_variable (while_loop number test body) _ h = absurd h
  same_declared_variable (do_loop number body test) (do_loop number' body' test') h = refl
  same_declared_variable (do_loop number body test) _ h = absurd h
  same_declared_variable (for_loop number first test last body) (for_loop number' first' test' last' body') h = refl
  same_declared_variable (for_loop number first test last body) _ h = absurd h.0
  same_declared_variable (switch e groups) (switch e' groups') h = refl
  same_declared_variable (switch e groups) _ h = absurd h
  same_declared_variable null_statement null_statement h = refl
  same_declared_variable null_statement _ h = absurd (apart h)
  same_declared_variable break_statement break_statement h = refl
  same_declared_variable break_statement _ h = absurd (apart h)
  same_declared_variable continue_statement continue_statement h = refl
  same_declared_variable continue_statement _ h = absurd (apart h)
  same_declared_variable return_statement return_statement h = refl
  same_declared_variable return_statement _ h = absurd (apart h)

  pub same_declared : (s s' : Statements) → SameStatements pairing s s' → declared_in s ≡ declared_in s'
  same_declared no_statements no_statements h = refl
  same_declared no_statements (statement s' rest') h = absurd h
  same_declared (statement s rest) no_statements h = absurd h
  same_declared (statement s rest) (statement s' rest') h = ap₂ (λ a b. a ++ b) (same_declared_variable s s' h.0) (same_declared rest rest' h.1)

  -- a loop statement
  loop_same : (number number' : ℕ) (first : Bool) (test test' : Doing X Bool) (round round' : Doing X Manner) → number ≡ number' → test ≡ test' → round ≡ round' →
      answers.loop number first test round ≡ answers'.loop number' first test' round'
  loop_same number number' first test test' round round' e t r =
      ap (λ k. answers.loop k first test round) e ∙ ap₂ (λ a b. answers.loop number' first a b) t r ∙ loops number' first test' round'

  scope_same : (variables variables' : List Variable) (m m' : Doing X Manner) → variables ≡ variables' → m ≡ m' → in_scope variables m ≡ in_scope variables' m'
  scope_same variables variables' m m' e h = ap₂ (λ v p. in_scope v p) e h

  found_same : (v : Value) (m m' n n' : Option (Doing X Manner)) → m ≡ m' → n ≡ n' → unwrap_or (or_else m n) (give Normally) ≡ unwrap_or (or_else m' n') (give Normally)
  found_same v m m' n n' e h = ap₂ (λ p q. unwrap_or (or_else p q) (give Normally)) e h

  mutual
    pub same_meaning : (s s' : Statement) → SameStatement pairing s s' → meaning program answers s ≡ meaning program' answers' s'
    same_meaning (compound body) (compound body') h = scope_same _ _ _ _ (same_declared body body' h) (same_block body body' h)
    same_meaning (compound body) _ h = absurd h
    same_meaning (action a) (action a') h = then_same _ _ _ _ (same_act a a' h) (λ _. refl)
    same_meaning (action a) _ h = absurd h
    same_meaning (declaration variable) (declaration variable') h =
        ap (λ u. meaning program answers (declaration u)) (variable_same pairing program program' one variable variable' h)
        ∙ then_same _ _ _ _ (cleared_cells_same pairing program program' one variable') (put_cells_same pairing program program' one variable')
    same_meaning (declaration variable) _ h = absurd h
    same_meaning (declaration_with variable init) (declaration_with variable' init') h =
        ap (λ u. meaning program answers (declaration_with u init)) (variable_same pairing program program' one variable variable' h.0)
        ∙ then_same _ _ _ _ (cleared_cells_same pairing program program' one variable') (λ zeros.
        then_same _ _ _ _ (put_cells_same pairing program program' one variable' zeros) (λ _.
        then_same _ _ _ _ (same_initial init init' h.1 zeros) (put_cells_same pairing program program' one variable')))
    same_meaning (declaration_with variable init) _ h = absurd h
    same_meaning (return_value e) (return_value e') h = then_same _ _ _ _ (same_value e e' h) (λ v. refl)
    same_meaning (return_value e) _ h = absurd h
    same_meaning (if_statement test first) (if_statement test' first') h = then_same _ _ _ _ (same_condition test test' h.0) (λ b. if_same b _ _ _ _ (same_meaning first first' h.1) refl)
    same_meaning (if_statement test first) _ h = absurd h
    same_meaning (if_else test first second) (if_else test' first' second') h = then_same _ _ _ _ (same_condition test test' h.0) (λ b. if_same b _ _ _ _ (same_meaning first first' h.1) (same_meaning second second' h.2))
    same_meaning (if_else test first second) _ h = absurd h
    same_meaning (while_loop number test body) (while_loop number' test' body') h = loop_same _ _ false _ _ _ _ h.0 (same_condition test test' h.1) (same_meaning body body' h.2)
    same_meaning (while_loop number test body) _ h = absurd h
    same_meaning (do_loop number body test) (do_loop number' body' test') h = loop_same _ _ true _ _ _ _ h.0 (same_condition test test' h.2) (same_meaning body body' h.1)
    same_meaning (do_loop number body test) _ h = absurd h
    same_meaning (for_loop number first test last body) (for_loop number' first' test' last' body') h =
        scope_same _ _ _ _ (same_declared first first' h.0.1)
        (then_same _ _ _ _ (same_block first first' h.0.1) (λ _.
        loop_same _ _ false _ _ _ _ h.0.0 (same_test test test' h.1.0)
        (then_same _ _ _ _ (same_meaning body body' h.0.2) (λ manner. ap (λ m. after_body m manner) (same_acts last last' h.1.1)))))
    same_meaning (for_loop number first test last body) _ h = absurd h.0
    same_meaning (switch e groups) (switch e' groups') h =
        then_same _ _ _ _ (same_value e e' h.0) (λ v.
        then_same _ _ _ _ (found_same v _ _ _ _ (same_group (any (is_case (number_of v))) groups groups' h.1) (same_group (any is_default) groups groups' h.1)) (λ manner. refl))
    same_meaning (switch e groups) _ h = absurd h
    same_meaning null_statement null_statement h = refl
    same_meaning null_statement _ h = absurd (apart h)
    same_meaning break_statement break_statement h = refl
    same_meaning break_statement _ h = absurd (apart h)
    same_meaning continue_statement continue_statement h = refl
    same_meaning continue_statement _ h = absurd (apart h)
    same_meaning return_statement return_statement h = refl
    same_meaning return_statement _ h = absurd (apart h)

    pub same_block : (s s' : Statements) → SameStatements pairing s s' → block program answers s ≡ block program' answers' s'
    same_block no_statements no_statements h = refl
    same_block no_statements (statement s' rest') h = absurd h
    same_block (statement s rest) no_statements h = absurd h
    same_block (statement s rest) (statement s' rest') h =
        then_same _ _ _ _ (same_meaning s s' h.0) (λ manner. ap (λ m. normally_then m manner) (same_block rest rest' h.1))

    same_group : (test : List Label → Bool) (groups groups' : Groups) → SameGroups pairing groups groups' → group program answers test groups ≡ group program' answers' test groups'
    same_group test no_groups no_groups h = refl
    same_group test no_groups (labelled labels' body' rest') h = absurd h
    same_group test (labelled labels body rest) no_groups h = absurd h
    same_group test (labelled labels body rest) (labelled labels' body' rest') h =
        ap (λ l. group program answers test (labelled l body rest)) h.0
        ∙ if_same (test labels') _ _ _ _ (ap Some (scope_same _ _ _ _ (same_declared body body' h.1) (same_block body body' h.1))) (same_group test rest rest' h.2)
