-- The parts of a piece of syntax that has a certain form.
use Rattle.std.specs.Prelude.{ℕ, List, Bool, true, false, Option, Some, None}
use Rattle.rvt_num.specs.Number.{Number}
use Rattle.rvt_num.specs.declared.kinds.Kind.{Kind}
use Rattle.rvt_num.specs.declared.operations.BinOp.{BinOp}
use Rattle.rvt_tree.specs.declared.types.Pointee.{Pointee}
use Rattle.rvt_tree.specs.declared.expressions.Variable.{Variable}
use Rattle.rvt_tree.specs.declared.statements.Bump.{Bump}
use Rattle.rvt_tree.specs.Syntax.{LvalueExpression, identifier, element, member, dereference, subscript, arrow, Expression, constant, null_pointer, value_at, address, decay, cast, plus, minus, complement, negation, binary, equal_pointers, unequal_pointers, pointer_plus, plus_pointer, pointer_minus, logical_and, logical_or, conditional, call, Arguments, Action, evaluate, call_void, discard, discard_void, assign, compound_assign, advance, retreat, step, step_pointer, Initializer, initial_value, braces, Initializers, Statement, compound, null_statement, action, declaration, declaration_with, break_statement, continue_statement, return_statement, return_value, if_statement, if_else, while_loop, do_loop, for_loop, switch, Statements, Groups}

abbrev pub as_identifier : LvalueExpression → Option Variable
as_identifier (identifier variable) = Some variable
as_identifier _ = None

abbrev pub as_element : LvalueExpression → Option (LvalueExpression × Expression × ℕ × ℕ)
as_element (element array index count size) = Some (array, index, count, size)
as_element _ = None

abbrev pub as_member : LvalueExpression → Option (LvalueExpression × ℕ × ℕ)
as_member (member aggregate field cell) = Some (aggregate, field, cell)
as_member _ = None

abbrev pub as_dereference : LvalueExpression → Option (Expression × Pointee)
as_dereference (dereference pointer pointee) = Some (pointer, pointee)
as_dereference _ = None

abbrev pub as_subscript : LvalueExpression → Option (Expression × Expression × Pointee × ℕ)
as_subscript (subscript pointer index pointee size) = Some (pointer, index, pointee, size)
as_subscript _ = None

abbrev pub as_arrow : LvalueExpression → Option (Expression × ℕ × ℕ × ℕ)
as_arrow (arrow pointer structure field cell) = Some (pointer, structure, field, cell)
as_arrow _ = None

abbrev pub as_constant : Expression → Option Number
as_constant (constant value) = Some value
as_constant _ = None

abbrev pub is_null_pointer : Expression → Bool
is_null_pointer null_pointer = true
is_null_pointer _ = false

abbrev pub as_value_at : Expression → Option LvalueExpression
as_value_at (value_at place) = Some place
as_value_at _ = None

abbrev pub as_address : Expression → Option LvalueExpression
as_address (address place) = Some place
as_address _ = None

abbrev pub as_decay : Expression → Option LvalueExpression
as_decay (decay place) = Some place
as_decay _ = None

abbrev pub as_cast : Expression → Option (Kind × Expression)
as_cast (cast kind operand) = Some (kind, operand)
as_cast _ = None

abbrev pub as_plus : Expression → Option Expression
as_plus (plus operand) = Some operand
as_plus _ = None

abbrev pub as_minus : Expression → Option Expression
as_minus (minus operand) = Some operand
as_minus _ = None

abbrev pub as_complement : Expression → Option Expression
as_complement (complement operand) = Some operand
as_complement _ = None

abbrev pub as_negation : Expression → Option Expression
as_negation (negation operand) = Some operand
as_negation _ = None

abbrev pub as_binary : Expression → Option (BinOp × Expression × Expression)
as_binary (binary op left right) = Some (op, left, right)
as_binary _ = None

abbrev pub as_equal_pointers : Expression → Option (Expression × Expression)
as_equal_pointers (equal_pointers left right) = Some (left, right)
as_equal_pointers _ = None

abbrev pub as_unequal_pointers : Expression → Option (Expression × Expression)
as_unequal_pointers (unequal_pointers left right) = Some (left, right)
as_unequal_pointers _ = None

abbrev pub as_pointer_plus : Expression → Option (Expression × Expression × ℕ)
as_pointer_plus (pointer_plus pointer count size) = Some (pointer, count, size)
as_pointer_plus _ = None

abbrev pub as_plus_pointer : Expression → Option (Expression × Expression × ℕ)
as_plus_pointer (plus_pointer count pointer size) = Some (count, pointer, size)
as_plus_pointer _ = None

abbrev pub as_pointer_minus : Expression → Option (Expression × Expression × ℕ)
as_pointer_minus (pointer_minus pointer count size) = Some (pointer, count, size)
as_pointer_minus _ = None

abbrev pub as_logical_and : Expression → Option (Expression × Expression)
as_logical_and (logical_and left right) = Some (left, right)
as_logical_and _ = None

abbrev pub as_logical_or : Expression → Option (Expression × Expression)
as_logical_or (logical_or left right) = Some (left, right)
as_logical_or _ = None

abbrev pub as_conditional : Expression → Option (Expression × Expression × Expression)
as_conditional (conditional test first second) = Some (test, first, second)
as_conditional _ = None

abbrev pub as_call : Expression → Option (ℕ × Arguments)
as_call (call function arguments) = Some (function, arguments)
as_call _ = None

abbrev pub as_evaluate : Action → Option Expression
as_evaluate (evaluate e) = Some e
as_evaluate _ = None

abbrev pub as_call_void : Action → Option (ℕ × Arguments)
as_call_void (call_void function arguments) = Some (function, arguments)
as_call_void _ = None

abbrev pub as_discard : Action → Option Expression
as_discard (discard e) = Some e
as_discard _ = None

abbrev pub as_discard_void : Action → Option (ℕ × Arguments)
as_discard_void (discard_void function arguments) = Some (function, arguments)
as_discard_void _ = None

abbrev pub as_assign : Action → Option (LvalueExpression × Expression)
as_assign (assign place e) = Some (place, e)
as_assign _ = None

abbrev pub as_compound_assign : Action → Option (BinOp × LvalueExpression × Kind × Expression)
as_compound_assign (compound_assign op place kind e) = Some (op, place, kind, e)
as_compound_assign _ = None

abbrev pub as_advance : Action → Option (LvalueExpression × Expression × ℕ)
as_advance (advance place e size) = Some (place, e, size)
as_advance _ = None

abbrev pub as_retreat : Action → Option (LvalueExpression × Expression × ℕ)
as_retreat (retreat place e size) = Some (place, e, size)
as_retreat _ = None

abbrev pub as_step : Action → Option (Bump × LvalueExpression)
as_step (step bump place) = Some (bump, place)
as_step _ = None

abbrev pub as_step_pointer : Action → Option (Bump × LvalueExpression × ℕ)
as_step_pointer (step_pointer bump place size) = Some (bump, place, size)
as_step_pointer _ = None

abbrev pub as_initial_value : Initializer → Option Expression
as_initial_value (initial_value e) = Some e
as_initial_value _ = None

abbrev pub as_braces : Initializer → Option Initializers
as_braces (braces members) = Some members
as_braces _ = None

abbrev pub as_compound : Statement → Option Statements
as_compound (compound body) = Some body
as_compound _ = None

abbrev pub is_null_statement : Statement → Bool
is_null_statement null_statement = true
is_null_statement _ = false

abbrev pub as_action : Statement → Option Action
as_action (action act) = Some act
as_action _ = None

abbrev pub as_declaration : Statement → Option Variable
as_declaration (declaration variable) = Some variable
as_declaration _ = None

abbrev pub as_declaration_with : Statement → Option (Variable × Initializer)
as_declaration_with (declaration_with variable init) = Some (variable, init)
as_declaration_with _ = None

abbrev pub is_break_statement : Statement → Bool
is_break_statement break_statement = true
is_break_statement _ = false

abbrev pub is_continue_statement : Statement → Bool
is_continue_statement continue_statement = true
is_continue_statement _ = false

abbrev pub is_return_statement : Statement → Bool
is_return_statement return_statement = true
is_return_statement _ = false

abbrev pub as_return_value : Statement → Option Expression
as_return_value (return_value e) = Some e
as_return_value _ = None

abbrev pub as_if_statement : Statement → Option (Expression × Statement)
as_if_statement (if_statement test first) = Some (test, first)
as_if_statement _ = None

abbrev pub as_if_else : Statement → Option (Expression × Statement × Statement)
as_if_else (if_else test first second) = Some (test, first, second)
as_if_else _ = None

abbrev pub as_while_loop : Statement → Option (ℕ × Expression × Statement)
as_while_loop (while_loop number test body) = Some (number, test, body)
as_while_loop _ = None

abbrev pub as_do_loop : Statement → Option (ℕ × Statement × Expression)
as_do_loop (do_loop number body test) = Some (number, body, test)
as_do_loop _ = None

-- the number, what stands first, and the body
abbrev pub as_for_loop : Statement → Option (ℕ × Statements × Statement)
as_for_loop (for_loop number first test last body) = Some (number, first, body)
as_for_loop _ = None

-- the test and what stands last
abbrev pub as_for_header : Statement → Option (Option Expression × List Action)
as_for_header (for_loop number first test last body) = Some (test, last)
as_for_header _ = None

abbrev pub as_switch : Statement → Option (Expression × Groups)
as_switch (switch e groups) = Some (e, groups)
as_switch _ = None
