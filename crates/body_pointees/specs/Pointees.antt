-- The types to which the pointers point that are dereferenced in a tree, in the order of the source.
use Rattle.std.specs.Prelude.{List, [], ◌∷◌, ◌++◌, Option, Some, None}
use Rattle.rvt_tree.specs.declared.types.Pointee.{Pointee}
use Rattle.rvt_tree.specs.declared.types.Pointee.TheVariants as P
use Rattle.rvt_tree.specs.Syntax.{LvalueExpression, identifier, element, member, dereference, subscript, arrow, Expression, constant, null_pointer, value_at, address, decay, cast, plus, minus, complement, negation, binary, equal_pointers, unequal_pointers, pointer_plus, plus_pointer, pointer_minus, logical_and, logical_or, conditional, call, Arguments, no_arguments, argument, Action, evaluate, call_void, discard, discard_void, assign, compound_assign, advance, retreat, step, step_pointer, Initializer, initial_value, braces, Initializers, no_initializers, initializer, Statement, compound, null_statement, action, declaration, declaration_with, break_statement, continue_statement, return_statement, return_value, if_statement, if_else, while_loop, do_loop, for_loop, switch, Statements, no_statements, statement, Groups, no_groups, labelled}

abbrev mutual
  pub place_pointees : LvalueExpression → List Pointee
  place_pointees (identifier variable) = []
  place_pointees (element array index count size) = place_pointees array ++ expression_pointees index
  place_pointees (member aggregate field cell) = place_pointees aggregate
  place_pointees (dereference pointer pointee) = expression_pointees pointer ++ pointee ∷ []
  place_pointees (subscript pointer index pointee size) = expression_pointees pointer ++ expression_pointees index ++ pointee ∷ []
  place_pointees (arrow pointer structure field cell) = expression_pointees pointer ++ P.Struct structure ∷ []

  -- `&p[i]` is a sum and `&*p` is `p`: neither dereferences
  pub address_pointees : LvalueExpression → List Pointee
  address_pointees (identifier variable) = []
  address_pointees (element array index count size) = place_pointees array ++ expression_pointees index
  address_pointees (member aggregate field cell) = place_pointees aggregate
  address_pointees (dereference pointer pointee) = expression_pointees pointer
  address_pointees (subscript pointer index pointee size) = expression_pointees pointer ++ expression_pointees index
  address_pointees (arrow pointer structure field cell) = expression_pointees pointer ++ P.Struct structure ∷ []

  pub expression_pointees : Expression → List Pointee
  expression_pointees (constant n) = []
  expression_pointees null_pointer = []
  expression_pointees (value_at place) = place_pointees place
  expression_pointees (address place) = address_pointees place
  expression_pointees (decay place) = place_pointees place
  expression_pointees (cast kind e) = expression_pointees e
  expression_pointees (plus e) = expression_pointees e
  expression_pointees (minus e) = expression_pointees e
  expression_pointees (complement e) = expression_pointees e
  expression_pointees (negation e) = expression_pointees e
  expression_pointees (binary op a b) = expression_pointees a ++ expression_pointees b
  expression_pointees (equal_pointers a b) = expression_pointees a ++ expression_pointees b
  expression_pointees (unequal_pointers a b) = expression_pointees a ++ expression_pointees b
  expression_pointees (pointer_plus pointer count size) = expression_pointees pointer ++ expression_pointees count
  expression_pointees (plus_pointer count pointer size) = expression_pointees count ++ expression_pointees pointer
  expression_pointees (pointer_minus pointer count size) = expression_pointees pointer ++ expression_pointees count
  expression_pointees (logical_and a b) = expression_pointees a ++ expression_pointees b
  expression_pointees (logical_or a b) = expression_pointees a ++ expression_pointees b
  expression_pointees (conditional test first second) = expression_pointees test ++ expression_pointees first ++ expression_pointees second
  expression_pointees (call function arguments) = arguments_pointees arguments

  pub arguments_pointees : Arguments → List Pointee
  arguments_pointees no_arguments = []
  arguments_pointees (argument e rest) = expression_pointees e ++ arguments_pointees rest

abbrev pub action_pointees : Action → List Pointee
action_pointees (evaluate e) = expression_pointees e
action_pointees (call_void function arguments) = arguments_pointees arguments
action_pointees (discard e) = expression_pointees e
action_pointees (discard_void function arguments) = arguments_pointees arguments
action_pointees (assign place e) = place_pointees place ++ expression_pointees e
action_pointees (compound_assign op place kind e) = place_pointees place ++ expression_pointees e
action_pointees (advance place e size) = place_pointees place ++ expression_pointees e
action_pointees (retreat place e size) = place_pointees place ++ expression_pointees e
action_pointees (step bump place) = place_pointees place
action_pointees (step_pointer bump place size) = place_pointees place

abbrev pub actions_pointees : List Action → List Pointee
actions_pointees [] = []
actions_pointees (a ∷ rest) = action_pointees a ++ actions_pointees rest

abbrev mutual
  pub initializer_pointees : Initializer → List Pointee
  initializer_pointees (initial_value e) = expression_pointees e
  initializer_pointees (braces members) = members_pointees members

  pub members_pointees : Initializers → List Pointee
  members_pointees no_initializers = []
  members_pointees (initializer i size rest) = initializer_pointees i ++ members_pointees rest

abbrev pub test_pointees : Option Expression → List Pointee
test_pointees None = []
test_pointees (Some test) = expression_pointees test

abbrev mutual
  pub statement_pointees : Statement → List Pointee
  statement_pointees (compound body) = statements_pointees body
  statement_pointees null_statement = []
  statement_pointees (action a) = action_pointees a
  statement_pointees (declaration variable) = []
  statement_pointees (declaration_with variable i) = initializer_pointees i
  statement_pointees break_statement = []
  statement_pointees continue_statement = []
  statement_pointees return_statement = []
  statement_pointees (return_value e) = expression_pointees e
  statement_pointees (if_statement test first) = expression_pointees test ++ statement_pointees first
  statement_pointees (if_else test first second) = expression_pointees test ++ statement_pointees first ++ statement_pointees second
  statement_pointees (while_loop number test body) = expression_pointees test ++ statement_pointees body
  statement_pointees (do_loop number body test) = statement_pointees body ++ expression_pointees test
  statement_pointees (for_loop number first test last body) = statements_pointees first ++ test_pointees test ++ actions_pointees last ++ statement_pointees body
  statement_pointees (switch e groups) = expression_pointees e ++ groups_pointees groups

  pub statements_pointees : Statements → List Pointee
  statements_pointees no_statements = []
  statements_pointees (statement s rest) = statement_pointees s ++ statements_pointees rest

  pub groups_pointees : Groups → List Pointee
  groups_pointees no_groups = []
  groups_pointees (labelled labels body rest) = statements_pointees body ++ groups_pointees rest

-- the types to which the pointers point that a body dereferences
abbrev pub body_pointees : Option Statement → List Pointee
body_pointees None = []
body_pointees (Some body) = statement_pointees body
