-- How much is still to be done before the next step is spent: a number that goes down with each task that is done.
use Rattle.std.specs.Prelude.{ℕ, ◌+◌, List, [], ◌∷◌, Option, Some, None, option_map}
use Rattle.rvt_tree.specs.Syntax.{LvalueExpression, identifier, element, member, dereference, subscript, arrow, Expression, constant, null_pointer, value_at, address, decay, cast, plus, minus, complement, negation, binary, equal_pointers, unequal_pointers, pointer_plus, plus_pointer, pointer_minus, logical_and, logical_or, conditional, call, Arguments, no_arguments, argument, Action, evaluate, call_void, discard, discard_void, assign, compound_assign, advance, retreat, step, step_pointer, Initializer, initial_value, braces, Initializers, no_initializers, initializer, Statement, compound, null_statement, action, declaration, declaration_with, break_statement, continue_statement, return_statement, return_value, if_statement, if_else, while_loop, do_loop, for_loop, switch, Statements, no_statements, statement, Groups, no_groups, labelled}
use Rattle.rvt_tree.specs.Views.{lvalue_view, expr_view, exprs_view, acts_view, inits_view, stmt_view, stmts_view, groups_view}
use Rattle.c_tasks.specs.Tasks.{body_in, last_in}
use Rattle.c_tasks.specs.declared.tasks.Part.{Part}
use Rattle.c_tasks.specs.declared.tasks.Part.TheVariants as P
use Rattle.c_tasks.specs.declared.tasks.Task.{Task}
use Rattle.c_tasks.specs.declared.tasks.Task.TheVariants as T

abbrev mutual
  pub lvalue_weight : LvalueExpression → ℕ
  lvalue_weight (identifier variable) = 8
  lvalue_weight (element array index count size) = 8 + lvalue_weight array + expression_weight index
  lvalue_weight (member aggregate field cell) = 8 + lvalue_weight aggregate
  lvalue_weight (dereference pointer pointee) = 8 + expression_weight pointer
  lvalue_weight (subscript pointer index pointee size) = 8 + expression_weight pointer + expression_weight index
  lvalue_weight (arrow pointer structure field cell) = 8 + expression_weight pointer

  pub expression_weight : Expression → ℕ
  expression_weight (constant n) = 8
  expression_weight null_pointer = 8
  expression_weight (value_at lvalue) = 8 + lvalue_weight lvalue
  expression_weight (address lvalue) = 8 + lvalue_weight lvalue
  expression_weight (decay lvalue) = 8 + lvalue_weight lvalue
  expression_weight (cast kind e) = 8 + expression_weight e
  expression_weight (plus e) = 8 + expression_weight e
  expression_weight (minus e) = 8 + expression_weight e
  expression_weight (complement e) = 8 + expression_weight e
  expression_weight (negation e) = 8 + expression_weight e
  expression_weight (binary op a b) = 8 + expression_weight a + expression_weight b
  expression_weight (equal_pointers a b) = 8 + expression_weight a + expression_weight b
  expression_weight (unequal_pointers a b) = 8 + expression_weight a + expression_weight b
  expression_weight (pointer_plus pointer count size) = 8 + expression_weight pointer + expression_weight count
  expression_weight (plus_pointer count pointer size) = 8 + expression_weight count + expression_weight pointer
  expression_weight (pointer_minus pointer count size) = 8 + expression_weight pointer + expression_weight count
  expression_weight (logical_and a b) = 8 + expression_weight a + expression_weight b
  expression_weight (logical_or a b) = 8 + expression_weight a + expression_weight b
  expression_weight (conditional test first second) = 8 + expression_weight test + expression_weight first + expression_weight second
  expression_weight (call function arguments) = 8 + arguments_weight arguments

  pub arguments_weight : Arguments → ℕ
  arguments_weight no_arguments = 0
  arguments_weight (argument e rest) = 4 + expression_weight e + arguments_weight rest

abbrev pub action_weight : Action → ℕ
action_weight (evaluate e) = 8 + expression_weight e
action_weight (call_void function arguments) = 8 + arguments_weight arguments
action_weight (discard e) = 8 + expression_weight e
action_weight (discard_void function arguments) = 8 + arguments_weight arguments
action_weight (assign lvalue e) = 8 + lvalue_weight lvalue + expression_weight e
action_weight (compound_assign op lvalue kind e) = 8 + lvalue_weight lvalue + expression_weight e
action_weight (advance lvalue e size) = 8 + lvalue_weight lvalue + expression_weight e
action_weight (retreat lvalue e size) = 8 + lvalue_weight lvalue + expression_weight e
action_weight (step bump lvalue) = 8 + lvalue_weight lvalue
action_weight (step_pointer bump lvalue size) = 8 + lvalue_weight lvalue

abbrev pub actions_weight : List Action → ℕ
actions_weight [] = 0
actions_weight (a ∷ rest) = 4 + action_weight a + actions_weight rest

abbrev mutual
  pub initializer_weight : Initializer → ℕ
  initializer_weight (initial_value e) = 8 + expression_weight e
  initializer_weight (braces members) = 8 + members_weight members

  pub members_weight : Initializers → ℕ
  members_weight no_initializers = 4
  members_weight (initializer i size rest) = 8 + initializer_weight i + members_weight rest

abbrev pub test_weight : Option Expression → ℕ
test_weight None = 0
test_weight (Some e) = expression_weight e

abbrev mutual
  pub statement_weight : Statement → ℕ
  statement_weight (compound body) = 8 + block_weight body
  statement_weight null_statement = 8
  statement_weight (action a) = 8 + action_weight a
  statement_weight (declaration variable) = 8
  statement_weight (declaration_with variable init) = 8 + initializer_weight init
  statement_weight break_statement = 8
  statement_weight continue_statement = 8
  statement_weight return_statement = 8
  statement_weight (return_value e) = 8 + expression_weight e
  statement_weight (if_statement test first) = 8 + expression_weight test + statement_weight first
  statement_weight (if_else test first second) = 8 + expression_weight test + statement_weight first + statement_weight second
  statement_weight (while_loop number test body) = 8 + statement_weight body
  statement_weight (do_loop number body test) = 8 + statement_weight body
  statement_weight (for_loop number first test last body) = 8 + block_weight first + statement_weight body
  statement_weight (switch e groups) = 8 + expression_weight e + groups_weight groups

  pub block_weight : Statements → ℕ
  block_weight no_statements = 4
  block_weight (statement s rest) = 4 + statement_weight s + block_weight rest

  pub groups_weight : Groups → ℕ
  groups_weight no_groups = 4
  groups_weight (labelled labels body rest) = 8 + block_weight body + groups_weight rest

abbrev pub part_weight : Part → Statement → ℕ
part_weight P.Whole s = 1 + statement_weight s
part_weight P.Test s = 1
part_weight P.Decide s = 12 + statement_weight (body_in s) + actions_weight (last_in s)
part_weight P.Last s = 4 + actions_weight (last_in s)
part_weight P.After s = 2

abbrev pub second_weight : Option Statement → ℕ
second_weight None = 0
second_weight (Some s) = statement_weight s

abbrev pub task_weight : Task → ℕ
task_weight (T.Evaluate e) = 1 + expression_weight (expr_view e.now.value)
task_weight (T.EvaluateSide e) = 1 + expression_weight (expr_view e.now)
task_weight (T.Locate lvalue) = 1 + lvalue_weight (lvalue_view lvalue.now.value)
task_weight (T.Address lvalue) = 1 + lvalue_weight (lvalue_view lvalue.now.value)
task_weight (T.Arguments arguments) = 1 + arguments_weight (exprs_view arguments.now.value)
task_weight (T.And e) = 4 + expression_weight (expr_view e.now.value)
task_weight (T.Or e) = 4 + expression_weight (expr_view e.now.value)
task_weight (T.Choose first second) = 4 + expression_weight (expr_view first.now.value) + expression_weight (expr_view second.now.value)
task_weight (T.Members members at count) = 1 + members_weight (inits_view members.now.value)
task_weight (T.Statement part s) = part_weight part (stmt_view s.now)
task_weight (T.Block body) = 1 + block_weight (stmts_view body.now.value)
task_weight (T.Rest body) = 1 + block_weight (stmts_view body.now.value)
task_weight (T.Branch first second) = 4 + statement_weight (stmt_view first.now.value) + second_weight (option_map (λ s. stmt_view s.now.value) second)
task_weight (T.Select groups) = 4 + groups_weight (groups_view groups.now.value)
task_weight (T.Acts all) = 1 + actions_weight (acts_view all.now.value)
task_weight _ = 1

abbrev pub tasks_weight : List Task → ℕ
tasks_weight [] = 0
tasks_weight (task ∷ tasks) = task_weight task + tasks_weight tasks
