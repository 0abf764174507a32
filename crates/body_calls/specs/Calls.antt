-- The functions that are called in a tree, in the order of the source.
use Rattle.std.specs.Prelude.{ℕ, List, [], ◌∷◌, ◌++◌, Option, Some, None}
use Rattle.rvt_tree.specs.Syntax.{LvalueExpression, identifier, element, member, dereference, subscript, arrow, Expression, constant, null_pointer, value_at, address, decay, cast, plus, minus, complement, negation, binary, equal_pointers, unequal_pointers, pointer_plus, plus_pointer, pointer_minus, logical_and, logical_or, conditional, call, Arguments, no_arguments, argument, Action, evaluate, call_void, discard, discard_void, assign, compound_assign, advance, retreat, step, step_pointer, Initializer, initial_value, braces, Initializers, no_initializers, initializer, Statement, compound, null_statement, action, declaration, declaration_with, break_statement, continue_statement, return_statement, return_value, if_statement, if_else, while_loop, do_loop, for_loop, switch, Statements, no_statements, statement, Groups, no_groups, labelled}

abbrev mutual
  pub place_calls : LvalueExpression → List ℕ
  place_calls (identifier variable) = []
  place_calls (element array index count size) = place_calls array ++ expression_calls index
  place_calls (member aggregate field cell) = place_calls aggregate
  place_calls (dereference pointer pointee) = expression_calls pointer
  place_calls (subscript pointer index pointee size) = expression_calls pointer ++ expression_calls index
  place_calls (arrow pointer structure field cell) = expression_calls pointer

  pub expression_calls : Expression → List ℕ
  expression_calls (constant n) = []
  expression_calls null_pointer = []
  expression_calls (value_at place) = place_calls place
  expression_calls (address place) = place_calls place
  expression_calls (decay place) = place_calls place
  expression_calls (cast kind e) = expression_calls e
  expression_calls (plus e) = expression_calls e
  expression_calls (minus e) = expression_calls e
  expression_calls (complement e) = expression_calls e
  expression_calls (negation e) = expression_calls e
  expression_calls (binary op a b) = expression_calls a ++ expression_calls b
  expression_calls (equal_pointers a b) = expression_calls a ++ expression_calls b
  expression_calls (unequal_pointers a b) = expression_calls a ++ expression_calls b
  expression_calls (pointer_plus pointer count size) = expression_calls pointer ++ expression_calls count
  expression_calls (plus_pointer count pointer size) = expression_calls count ++ expression_calls pointer
  expression_calls (pointer_minus pointer count size) = expression_calls pointer ++ expression_calls count
  expression_calls (logical_and a b) = expression_calls a ++ expression_calls b
  expression_calls (logical_or a b) = expression_calls a ++ expression_calls b
  expression_calls (conditional test first second) = expression_calls test ++ expression_calls first ++ expression_calls second
  expression_calls (call function arguments) = function ∷ arguments_calls arguments

  pub arguments_calls : Arguments → List ℕ
  arguments_calls no_arguments = []
  arguments_calls (argument e rest) = expression_calls e ++ arguments_calls rest

abbrev pub action_calls : Action → List ℕ
action_calls (evaluate e) = expression_calls e
action_calls (call_void function arguments) = function ∷ arguments_calls arguments
action_calls (discard e) = expression_calls e
action_calls (discard_void function arguments) = function ∷ arguments_calls arguments
action_calls (assign place e) = place_calls place ++ expression_calls e
action_calls (compound_assign op place kind e) = place_calls place ++ expression_calls e
action_calls (advance place e size) = place_calls place ++ expression_calls e
action_calls (retreat place e size) = place_calls place ++ expression_calls e
action_calls (step bump place) = place_calls place
action_calls (step_pointer bump place size) = place_calls place

abbrev pub actions_calls : List Action → List ℕ
actions_calls [] = []
actions_calls (a ∷ rest) = action_calls a ++ actions_calls rest

abbrev mutual
  pub initializer_calls : Initializer → List ℕ
  initializer_calls (initial_value e) = expression_calls e
  initializer_calls (braces members) = members_calls members

  pub members_calls : Initializers → List ℕ
  members_calls no_initializers = []
  members_calls (initializer i size rest) = initializer_calls i ++ members_calls rest

abbrev pub test_calls : Option Expression → List ℕ
test_calls None = []
test_calls (Some test) = expression_calls test

abbrev mutual
  pub statement_calls : Statement → List ℕ
  statement_calls (compound body) = statements_calls body
  statement_calls null_statement = []
  statement_calls (action a) = action_calls a
  statement_calls (declaration variable) = []
  statement_calls (declaration_with variable i) = initializer_calls i
  statement_calls break_statement = []
  statement_calls continue_statement = []
  statement_calls return_statement = []
  statement_calls (return_value e) = expression_calls e
  statement_calls (if_statement test first) = expression_calls test ++ statement_calls first
  statement_calls (if_else test first second) = expression_calls test ++ statement_calls first ++ statement_calls second
  statement_calls (while_loop number test body) = expression_calls test ++ statement_calls body
  statement_calls (do_loop number body test) = statement_calls body ++ expression_calls test
  statement_calls (for_loop number first test last body) = statements_calls first ++ test_calls test ++ actions_calls last ++ statement_calls body
  statement_calls (switch e groups) = expression_calls e ++ groups_calls groups

  pub statements_calls : Statements → List ℕ
  statements_calls no_statements = []
  statements_calls (statement s rest) = statement_calls s ++ statements_calls rest

  pub groups_calls : Groups → List ℕ
  groups_calls no_groups = []
  groups_calls (labelled labels body rest) = statements_calls body ++ groups_calls rest

-- the functions that a body calls
abbrev pub body_calls : Option Statement → List ℕ
body_calls None = []
body_calls (Some body) = statement_calls body
