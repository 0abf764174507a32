-- Trees in which each variable stands under another name.
use Rattle.std.specs.Prelude.{List, [], ◌∷◌, option_map}
use Rattle.rvt_tree.specs.declared.expressions.Variable.{Variable}
use Rattle.rvt_tree.specs.Syntax.{LvalueExpression, identifier, element, member, dereference, subscript, arrow, Expression, constant, null_pointer, value_at, address, decay, cast, plus, minus, complement, negation, binary, equal_pointers, unequal_pointers, pointer_plus, plus_pointer, pointer_minus, logical_and, logical_or, conditional, call, Arguments, no_arguments, argument, Action, evaluate, call_void, discard, discard_void, assign, compound_assign, advance, retreat, step, step_pointer, Initializer, initial_value, braces, Initializers, no_initializers, initializer, Statement, compound, null_statement, action, declaration, declaration_with, break_statement, continue_statement, return_statement, return_value, if_statement, if_else, while_loop, do_loop, for_loop, switch, Statements, no_statements, statement, Groups, no_groups, labelled}

module _ (name : Variable → Variable) where
  abbrev mutual
    pub place_renamed : LvalueExpression → LvalueExpression
    place_renamed (identifier variable) = identifier (name variable)
    place_renamed (element array index count size) = element (place_renamed array) (renamed index) count size
    place_renamed (member aggregate field cell) = member (place_renamed aggregate) field cell
    place_renamed (dereference pointer pointee) = dereference (renamed pointer) pointee
    place_renamed (subscript pointer index pointee size) = subscript (renamed pointer) (renamed index) pointee size
    place_renamed (arrow pointer structure field cell) = arrow (renamed pointer) structure field cell

    pub renamed : Expression → Expression
    renamed (constant n) = constant n
    renamed null_pointer = null_pointer
    renamed (value_at place) = value_at (place_renamed place)
    renamed (address place) = address (place_renamed place)
    renamed (decay place) = decay (place_renamed place)
    renamed (cast kind e) = cast kind (renamed e)
    renamed (plus e) = plus (renamed e)
    renamed (minus e) = minus (renamed e)
    renamed (complement e) = complement (renamed e)
    renamed (negation e) = negation (renamed e)
    renamed (binary op a b) = binary op (renamed a) (renamed b)
    renamed (equal_pointers a b) = equal_pointers (renamed a) (renamed b)
    renamed (unequal_pointers a b) = unequal_pointers (renamed a) (renamed b)
    renamed (pointer_plus pointer count size) = pointer_plus (renamed pointer) (renamed count) size
    renamed (plus_pointer count pointer size) = plus_pointer (renamed count) (renamed pointer) size
    renamed (pointer_minus pointer count size) = pointer_minus (renamed pointer) (renamed count) size
    renamed (logical_and a b) = logical_and (renamed a) (renamed b)
    renamed (logical_or a b) = logical_or (renamed a) (renamed b)
    renamed (conditional test first second) = conditional (renamed test) (renamed first) (renamed second)
    renamed (call function arguments) = call function (arguments_renamed arguments)

    pub arguments_renamed : Arguments → Arguments
    arguments_renamed no_arguments = no_arguments
    arguments_renamed (argument e rest) = argument (renamed e) (arguments_renamed rest)

  abbrev pub action_renamed : Action → Action
  action_renamed (evaluate e) = evaluate (renamed e)
  action_renamed (call_void function arguments) = call_void function (arguments_renamed arguments)
  action_renamed (discard e) = discard (renamed e)
  action_renamed (discard_void function arguments) = discard_void function (arguments_renamed arguments)
  action_renamed (assign place e) = assign (place_renamed place) (renamed e)
  action_renamed (compound_assign op place kind e) = compound_assign op (place_renamed place) kind (renamed e)
  action_renamed (advance place e size) = advance (place_renamed place) (renamed e) size
  action_renamed (retreat place e size) = retreat (place_renamed place) (renamed e) size
  action_renamed (step bump place) = step bump (place_renamed place)
  action_renamed (step_pointer bump place size) = step_pointer bump (place_renamed place) size

  abbrev pub actions_renamed : List Action → List Action
  actions_renamed [] = []
  actions_renamed (a ∷ rest) = action_renamed a ∷ actions_renamed rest

  abbrev mutual
    pub initializer_renamed : Initializer → Initializer
    initializer_renamed (initial_value e) = initial_value (renamed e)
    initializer_renamed (braces members) = braces (members_renamed members)

    pub members_renamed : Initializers → Initializers
    members_renamed no_initializers = no_initializers
    members_renamed (initializer i size rest) = initializer (initializer_renamed i) size (members_renamed rest)

  abbrev mutual
    pub statement_renamed : Statement → Statement
    statement_renamed (compound body) = compound (statements_renamed body)
    statement_renamed null_statement = null_statement
    statement_renamed (action a) = action (action_renamed a)
    statement_renamed (declaration variable) = declaration (name variable)
    statement_renamed (declaration_with variable i) = declaration_with (name variable) (initializer_renamed i)
    statement_renamed break_statement = break_statement
    statement_renamed continue_statement = continue_statement
    statement_renamed return_statement = return_statement
    statement_renamed (return_value e) = return_value (renamed e)
    statement_renamed (if_statement test first) = if_statement (renamed test) (statement_renamed first)
    statement_renamed (if_else test first second) = if_else (renamed test) (statement_renamed first) (statement_renamed second)
    statement_renamed (while_loop number test body) = while_loop number (renamed test) (statement_renamed body)
    statement_renamed (do_loop number body test) = do_loop number (statement_renamed body) (renamed test)
    statement_renamed (for_loop number first test last body) =
        for_loop number (statements_renamed first) (option_map renamed test) (actions_renamed last) (statement_renamed body)
    statement_renamed (switch e groups) = switch (renamed e) (groups_renamed groups)

    pub statements_renamed : Statements → Statements
    statements_renamed no_statements = no_statements
    statements_renamed (statement s rest) = statement (statement_renamed s) (statements_renamed rest)

    pub groups_renamed : Groups → Groups
    groups_renamed no_groups = no_groups
    groups_renamed (labelled labels body rest) = labelled labels (statements_renamed body) (groups_renamed rest)
