-- Locals whose address is taken: each is an object of the table, and stands in the body of its function as that.
use Rattle.std.specs.Prelude.{ℕ, zero, suc, ◌+◌, List, [], ◌∷◌, Bool, if◌then◌else◌, Option, Some, None, option_map}
use Rattle.rvt_tree.specs.declared.expressions.Variable.{Variable}
use Rattle.rvt_tree.specs.declared.expressions.Variable.TheVariants as V
use Rattle.rvt_tree.specs.Syntax.{LvalueExpression, identifier, element, member, dereference, subscript, arrow, Expression, constant, null_pointer, value_at, address, decay, cast, plus, minus, complement, negation, binary, equal_pointers, unequal_pointers, pointer_plus, plus_pointer, pointer_minus, logical_and, logical_or, conditional, call, Arguments, no_arguments, argument, Action, evaluate, call_void, discard, discard_void, assign, compound_assign, advance, retreat, step, step_pointer, Initializer, initial_value, braces, Initializers, no_initializers, initializer, Statement, compound, null_statement, action, declaration, declaration_with, break_statement, continue_statement, return_statement, return_value, if_statement, if_else, while_loop, do_loop, for_loop, switch, Statements, no_statements, statement, Groups, no_groups, labelled}

-- ---- which object each local is

-- how many of the first locals are objects, where this says of each whether it is one
abbrev pub objects_before : (ℕ → Bool) → ℕ → ℕ
objects_before is_object zero = zero
objects_before is_object (suc number) = (if is_object number then 1 else 0) + objects_before is_object number

-- the objects of a function follow one another in the order of its locals, from a first one on
abbrev pub object_of_local : (ℕ → Bool) → ℕ → ℕ → Option ℕ
object_of_local is_object first number = if is_object number then Some (first + objects_before is_object number) else None

abbrev pub variable_at : Option ℕ → ℕ → Variable
variable_at (Some object) number = V.Object object
variable_at None number = V.Local number

abbrev pub variable_in : (ℕ → Option ℕ) → Variable → Variable
variable_in object (V.Local number) = variable_at (object number) number
variable_in object (V.Object number) = V.Object number

-- ---- a body in which each local that is an object stands as that

module _ (object : ℕ → Option ℕ) where
  abbrev mutual
    pub place_resolved : LvalueExpression → LvalueExpression
    place_resolved (identifier variable) = identifier (variable_in object variable)
    place_resolved (element array index count size) = element (place_resolved array) (resolved index) count size
    place_resolved (member aggregate field cell) = member (place_resolved aggregate) field cell
    place_resolved (dereference pointer pointee) = dereference (resolved pointer) pointee
    place_resolved (subscript pointer index pointee size) = subscript (resolved pointer) (resolved index) pointee size
    place_resolved (arrow pointer structure field cell) = arrow (resolved pointer) structure field cell

    pub resolved : Expression → Expression
    resolved (constant n) = constant n
    resolved null_pointer = null_pointer
    resolved (value_at place) = value_at (place_resolved place)
    resolved (address place) = address (place_resolved place)
    resolved (decay place) = decay (place_resolved place)
    resolved (cast kind e) = cast kind (resolved e)
    resolved (plus e) = plus (resolved e)
    resolved (minus e) = minus (resolved e)
    resolved (complement e) = complement (resolved e)
    resolved (negation e) = negation (resolved e)
    resolved (binary op a b) = binary op (resolved a) (resolved b)
    resolved (equal_pointers a b) = equal_pointers (resolved a) (resolved b)
    resolved (unequal_pointers a b) = unequal_pointers (resolved a) (resolved b)
    resolved (pointer_plus pointer count size) = pointer_plus (resolved pointer) (resolved count) size
    resolved (plus_pointer count pointer size) = plus_pointer (resolved count) (resolved pointer) size
    resolved (pointer_minus pointer count size) = pointer_minus (resolved pointer) (resolved count) size
    resolved (logical_and a b) = logical_and (resolved a) (resolved b)
    resolved (logical_or a b) = logical_or (resolved a) (resolved b)
    resolved (conditional test first second) = conditional (resolved test) (resolved first) (resolved second)
    resolved (call function arguments) = call function (arguments_resolved arguments)

    pub arguments_resolved : Arguments → Arguments
    arguments_resolved no_arguments = no_arguments
    arguments_resolved (argument e rest) = argument (resolved e) (arguments_resolved rest)

  abbrev pub action_resolved : Action → Action
  action_resolved (evaluate e) = evaluate (resolved e)
  action_resolved (call_void function arguments) = call_void function (arguments_resolved arguments)
  action_resolved (discard e) = discard (resolved e)
  action_resolved (discard_void function arguments) = discard_void function (arguments_resolved arguments)
  action_resolved (assign place e) = assign (place_resolved place) (resolved e)
  action_resolved (compound_assign op place kind e) = compound_assign op (place_resolved place) kind (resolved e)
  action_resolved (advance place e size) = advance (place_resolved place) (resolved e) size
  action_resolved (retreat place e size) = retreat (place_resolved place) (resolved e) size
  action_resolved (step bump place) = step bump (place_resolved place)
  action_resolved (step_pointer bump place size) = step_pointer bump (place_resolved place) size

  abbrev pub actions_resolved : List Action → List Action
  actions_resolved [] = []
  actions_resolved (a ∷ rest) = action_resolved a ∷ actions_resolved rest

  abbrev mutual
    pub initializer_resolved : Initializer → Initializer
    initializer_resolved (initial_value e) = initial_value (resolved e)
    initializer_resolved (braces members) = braces (members_resolved members)

    pub members_resolved : Initializers → Initializers
    members_resolved no_initializers = no_initializers
    members_resolved (initializer i size rest) = initializer (initializer_resolved i) size (members_resolved rest)

  abbrev mutual
    pub statement_resolved : Statement → Statement
    statement_resolved (compound body) = compound (statements_resolved body)
    statement_resolved null_statement = null_statement
    statement_resolved (action a) = action (action_resolved a)
    statement_resolved (declaration variable) = declaration (variable_in object variable)
    statement_resolved (declaration_with variable i) = declaration_with (variable_in object variable) (initializer_resolved i)
    statement_resolved break_statement = break_statement
    statement_resolved continue_statement = continue_statement
    statement_resolved return_statement = return_statement
    statement_resolved (return_value e) = return_value (resolved e)
    statement_resolved (if_statement test first) = if_statement (resolved test) (statement_resolved first)
    statement_resolved (if_else test first second) = if_else (resolved test) (statement_resolved first) (statement_resolved second)
    statement_resolved (while_loop number test body) = while_loop number (resolved test) (statement_resolved body)
    statement_resolved (do_loop number body test) = do_loop number (statement_resolved body) (resolved test)
    statement_resolved (for_loop number first test last body) =
        for_loop number (statements_resolved first) (option_map resolved test) (actions_resolved last) (statement_resolved body)
    statement_resolved (switch e groups) = switch (resolved e) (groups_resolved groups)

    pub statements_resolved : Statements → Statements
    statements_resolved no_statements = no_statements
    statements_resolved (statement s rest) = statement (statement_resolved s) (statements_resolved rest)

    pub groups_resolved : Groups → Groups
    groups_resolved no_groups = no_groups
    groups_resolved (labelled labels body rest) = labelled labels (statements_resolved body) (groups_resolved rest)
