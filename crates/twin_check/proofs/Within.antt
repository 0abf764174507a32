-- What is the same under a pairing is the same under one that pairs more functions.
use Rattle.std.proofs.Common.{ℕ, List, [], ◌∷◌, Option, Some, None, subst}
use Rattle.rvt_tree.specs.declared.types.Pointee.{Pointee}
use Rattle.rvt_tree.specs.declared.types.Pointee.TheVariants as P
use Rattle.rvt_tree.specs.declared.expressions.Variable.{Variable}
use Rattle.rvt_tree.specs.declared.expressions.Variable.TheVariants as V
use Rattle.rvt_tree.specs.declared.pairings.Pairing.{Pairing}
use Rattle.rvt_tree.specs.Syntax.{LvalueExpression, identifier, element, member, dereference, subscript, arrow, Expression, constant, null_pointer, value_at, address, decay, cast, plus, minus, complement, negation, binary, equal_pointers, unequal_pointers, pointer_plus, plus_pointer, pointer_minus, logical_and, logical_or, conditional, call, Arguments, no_arguments, argument, Action, evaluate, call_void, discard, discard_void, assign, compound_assign, advance, retreat, step, step_pointer, Initializer, initial_value, braces, Initializers, no_initializers, initializer, Statement, compound, null_statement, action, declaration, declaration_with, break_statement, continue_statement, return_statement, return_value, if_statement, if_else, while_loop, do_loop, for_loop, switch, Statements, no_statements, statement, Groups, no_groups, labelled}
use Rattle.rvt_tree.specs.Same.{ArePaired, SamePointee, SameVariable, SameLvalue, SameExpression, SameArguments, SameAction, SameActions, SameInitializer, SameInitializers, SameTest, SameStatement, SameStatements, SameGroups}
use Rattle.twin_check.specs.Sets.{IsWithin}

module _ (inner outer : Pairing) (within : IsWithin inner outer) where
  pub structs_within : (a b : ℕ) → ArePaired inner.structs a b → ArePaired outer.structs a b
  structs_within a b h = subst (λ (list : List (Option ℕ)). ArePaired list a b) within.structs h

  pub pointee_within : (a b : Pointee) → SamePointee inner a b → SamePointee outer a b
  pointee_within (P.Word kind) (P.Word kind') h = h
  pointee_within (P.Struct a) (P.Struct b) h = structs_within a b h
  pointee_within (P.Word kind) (P.Struct b) h = absurd h
  pointee_within (P.Struct a) (P.Word kind) h = absurd h

  pub variable_within : (a b : Variable) → SameVariable inner a b → SameVariable outer a b
  variable_within (V.Local a) (V.Local b) h = h
  variable_within (V.Object a) (V.Object b) h = subst (λ (list : List (Option ℕ)). ArePaired list a b) within.objects h
  variable_within (V.Local a) (V.Object b) h = absurd h
  variable_within (V.Object a) (V.Local b) h = absurd h

  mutual
    pub lvalue_within : (e e' : LvalueExpression) → SameLvalue inner e e' → SameLvalue outer e e'
    lvalue_within (identifier variable) (identifier variable') h = variable_within variable variable' h
    lvalue_within (identifier variable) _ h = absurd h
    lvalue_within (element array index count size) (element array' index' count' size') h = (lvalue_within array array' h.0, expression_within index index' h.1, h.2, h.3)
    lvalue_within (element array index count size) _ h = absurd h
    lvalue_within (member aggregate field cell) (member aggregate' field' cell') h = (lvalue_within aggregate aggregate' h.0, h.1, h.2)
    lvalue_within (member aggregate field cell) _ h = absurd h
    lvalue_within (dereference pointer pointee) (dereference pointer' pointee') h = (expression_within pointer pointer' h.0, pointee_within pointee pointee' h.1)
    lvalue_within (dereference pointer pointee) _ h = absurd h
    lvalue_within (subscript pointer index pointee size) (subscript pointer' index' pointee' size') h = (expression_within pointer pointer' h.0, expression_within index index' h.1, pointee_within pointee pointee' h.2, h.3)
    lvalue_within (subscript pointer index pointee size) _ h = absurd h
    lvalue_within (arrow pointer structure field cell) (arrow pointer' structure' field' cell') h = (expression_within pointer pointer' h.0, structs_within structure structure' h.1, h.2, h.3)
    lvalue_within (arrow pointer structure field cell) _ h = absurd h

    pub expression_within : (e e' : Expression) → SameExpression inner e e' → SameExpression outer e e'
    expression_within (constant value) (constant value') h = h
    expression_within (constant value) _ h = absurd h
    expression_within null_pointer other h = h
    expression_within (value_at place) (value_at place') h = lvalue_within place place' h
    expression_within (value_at place) _ h = absurd h
    expression_within (address place) (address place') h = lvalue_within place place' h
    expression_within (address place) _ h = absurd h
    expression_within (decay place) (decay place') h = lvalue_within place place' h
    expression_within (decay place) _ h = absurd h
    expression_within (cast kind operand) (cast kind' operand') h = (h.0, expression_within operand operand' h.1)
    expression_within (cast kind operand) _ h = absurd h
    expression_within (plus operand) (plus operand') h = expression_within operand operand' h
    expression_within (plus operand) _ h = absurd h
    expression_within (minus operand) (minus operand') h = expression_within operand operand' h
    expression_within (minus operand) _ h = absurd h
    expression_within (complement operand) (complement operand') h = expression_within operand operand' h
    expression_within (complement operand) _ h = absurd h
    expression_within (negation operand) (negation operand') h = expression_within operand operand' h
    expression_within (negation operand) _ h = absurd h
    expression_within (binary op left right) (binary op' left' right') h = (h.0, expression_within left left' h.1, expression_within right right' h.2)
    expression_within (binary op left right) _ h = absurd h
    expression_within (equal_pointers left right) (equal_pointers left' right') h = (expression_within left left' h.0, expression_within right right' h.1)
    expression_within (equal_pointers left right) _ h = absurd h
    expression_within (unequal_pointers left right) (unequal_pointers left' right') h = (expression_within left left' h.0, expression_within right right' h.1)
    expression_within (unequal_pointers left right) _ h = absurd h
    expression_within (pointer_plus pointer count size) (pointer_plus pointer' count' size') h = (expression_within pointer pointer' h.0, expression_within count count' h.1, h.2)
    expression_within (pointer_plus pointer count size) _ h = absurd h
    expression_within (plus_pointer count pointer size) (plus_pointer count' pointer' size') h = (expression_within count count' h.0, expression_within pointer pointer' h.1, h.2)
    expression_within (plus_pointer count pointer size) _ h = absurd h
    expression_within (pointer_minus pointer count size) (pointer_minus pointer' count' size') h = (expression_within pointer pointer' h.0, expression_within count count' h.1, h.2)
    expression_within (pointer_minus pointer count size) _ h = absurd h
    expression_within (logical_and left right) (logical_and left' right') h = (expression_within left left' h.0, expression_within right right' h.1)
    expression_within (logical_and left right) _ h = absurd h
    expression_within (logical_or left right) (logical_or left' right') h = (expression_within left left' h.0, expression_within right right' h.1)
    expression_within (logical_or left right) _ h = absurd h
    expression_within (conditional test first second) (conditional test' first' second') h = (expression_within test test' h.0, expression_within first first' h.1, expression_within second second' h.2)
    expression_within (conditional test first second) _ h = absurd h
    expression_within (call function arguments) (call function' arguments') h = (within.functions function function' h.0, arguments_within arguments arguments' h.1)
    expression_within (call function arguments) _ h = absurd h

    pub arguments_within : (e e' : Arguments) → SameArguments inner e e' → SameArguments outer e e'
    arguments_within no_arguments no_arguments h = h
    arguments_within (argument a more) (argument b more') h = (expression_within a b h.0, arguments_within more more' h.1)
    arguments_within no_arguments (argument b more') h = absurd h
    arguments_within (argument a more) no_arguments h = absurd h

  pub action_within : (e e' : Action) → SameAction inner e e' → SameAction outer e e'
  action_within (evaluate e) (evaluate e') h = expression_within e e' h
  action_within (evaluate e) _ h = absurd h
  action_within (call_void function arguments) (call_void function' arguments') h = (within.functions function function' h.0, arguments_within arguments arguments' h.1)
  action_within (call_void function arguments) _ h = absurd h
  action_within (discard e) (discard e') h = expression_within e e' h
  action_within (discard e) _ h = absurd h
  action_within (discard_void function arguments) (discard_void function' arguments') h = (within.functions function function' h.0, arguments_within arguments arguments' h.1)
  action_within (discard_void function arguments) _ h = absurd h
  action_within (assign place e) (assign place' e') h = (lvalue_within place place' h.0, expression_within e e' h.1)
  action_within (assign place e) _ h = absurd h
  action_within (compound_assign op place kind e) (compound_assign op' place' kind' e') h = (h.0, lvalue_within place place' h.1, h.2, expression_within e e' h.3)
  action_within (compound_assign op place kind e) _ h = absurd h
  action_within (advance place e size) (advance place' e' size') h = (lvalue_within place place' h.0, expression_within e e' h.1, h.2)
  action_within (advance place e size) _ h = absurd h
  action_within (retreat place e size) (retreat place' e' size') h = (lvalue_within place place' h.0, expression_within e e' h.1, h.2)
  action_within (retreat place e size) _ h = absurd h
  action_within (step bump place) (step bump' place') h = (h.0, lvalue_within place place' h.1)
  action_within (step bump place) _ h = absurd h
  action_within (step_pointer bump place size) (step_pointer bump' place' size') h = (h.0, lvalue_within place place' h.1, h.2)
  action_within (step_pointer bump place size) _ h = absurd h

  pub actions_within : (e e' : List Action) → SameActions inner e e' → SameActions outer e e'
  actions_within [] [] h = h
  actions_within (a ∷ rest) (b ∷ rest') h = (action_within a b h.0, actions_within rest rest' h.1)
  actions_within [] (b ∷ rest') h = absurd h
  actions_within (a ∷ rest) [] h = absurd h

  mutual
    pub initializer_within : (e e' : Initializer) → SameInitializer inner e e' → SameInitializer outer e e'
    initializer_within (initial_value e) (initial_value e') h = expression_within e e' h
    initializer_within (initial_value e) _ h = absurd h
    initializer_within (braces members) (braces members') h = initializers_within members members' h
    initializer_within (braces members) _ h = absurd h

    pub initializers_within : (e e' : Initializers) → SameInitializers inner e e' → SameInitializers outer e e'
    initializers_within no_initializers no_initializers h = h
    initializers_within (initializer a size rest) (initializer b size' rest') h = (initializer_within a b h.0, h.1, initializers_within rest rest' h.2)
    initializers_within no_initializers (initializer b size' rest') h = absurd h
    initializers_within (initializer a size rest) no_initializers h = absurd h

  pub test_within : (e e' : Option Expression) → SameTest inner e e' → SameTest outer e e'
  test_within None None h = h
  test_within (Some a) (Some b) h = expression_within a b h
  test_within None (Some b) h = absurd h
  test_within (Some a) None h = absurd h

  mutual
    pub statement_within : (e e' : Statement) → SameStatement inner e e' → SameStatement outer e e'
    statement_within (compound body) (compound body') h = statements_within body body' h
    statement_within (compound body) _ h = absurd h
    statement_within null_statement other h = h
    statement_within (action act) (action act') h = action_within act act' h
    statement_within (action act) _ h = absurd h
    statement_within (declaration variable) (declaration variable') h = variable_within variable variable' h
    statement_within (declaration variable) _ h = absurd h
    statement_within (declaration_with variable init) (declaration_with variable' init') h = (variable_within variable variable' h.0, initializer_within init init' h.1)
    statement_within (declaration_with variable init) _ h = absurd h
    statement_within break_statement other h = h
    statement_within continue_statement other h = h
    statement_within return_statement other h = h
    statement_within (return_value e) (return_value e') h = expression_within e e' h
    statement_within (return_value e) _ h = absurd h
    statement_within (if_statement test first) (if_statement test' first') h = (expression_within test test' h.0, statement_within first first' h.1)
    statement_within (if_statement test first) _ h = absurd h
    statement_within (if_else test first second) (if_else test' first' second') h = (expression_within test test' h.0, statement_within first first' h.1, statement_within second second' h.2)
    statement_within (if_else test first second) _ h = absurd h
    statement_within (while_loop number test body) (while_loop number' test' body') h = (h.0, expression_within test test' h.1, statement_within body body' h.2)
    statement_within (while_loop number test body) _ h = absurd h
    statement_within (do_loop number body test) (do_loop number' body' test') h = (h.0, statement_within body body' h.1, expression_within test test' h.2)
    statement_within (do_loop number body test) _ h = absurd h
    statement_within (for_loop number first test last body) (for_loop number' first' test' last' body') h = ((h.0.0, statements_within first first' h.0.1, statement_within body body' h.0.2), (test_within test test' h.1.0, actions_within last last' h.1.1))
    statement_within (for_loop number first test last body) _ h = absurd h.0
    statement_within (switch e groups) (switch e' groups') h = (expression_within e e' h.0, groups_within groups groups' h.1)
    statement_within (switch e groups) _ h = absurd h

    pub statements_within : (e e' : Statements) → SameStatements inner e e' → SameStatements outer e e'
    statements_within no_statements no_statements h = h
    statements_within (statement a rest) (statement b rest') h = (statement_within a b h.0, statements_within rest rest' h.1)
    statements_within no_statements (statement b rest') h = absurd h
    statements_within (statement a rest) no_statements h = absurd h

    pub groups_within : (e e' : Groups) → SameGroups inner e e' → SameGroups outer e e'
    groups_within no_groups no_groups h = h
    groups_within (labelled labels a rest) (labelled labels' b rest') h = (h.0, statements_within a b h.1, groups_within rest rest' h.2)
    groups_within no_groups (labelled labels' b rest') h = absurd h
    groups_within (labelled labels a rest) no_groups h = absurd h
