-- What each tree says.
use Rattle.std.specs.Prelude.{ℕ, List, [], ◌∷◌, Option, option_map}
use Rattle.rvt_tree.specs.Syntax.{LvalueExpression, identifier, element, member, dereference, subscript, arrow, Expression, constant, null_pointer, value_at, address, decay, cast, plus, minus, complement, negation, binary, equal_pointers, unequal_pointers, pointer_plus, plus_pointer, pointer_minus, logical_and, logical_or, conditional, call, Arguments, no_arguments, argument, Action, evaluate, call_void, discard, discard_void, assign, compound_assign, advance, retreat, step, step_pointer, Initializer, initial_value, braces, Initializers, no_initializers, initializer, Statement, compound, null_statement, action, declaration, declaration_with, break_statement, continue_statement, return_statement, return_value, if_statement, if_else, while_loop, do_loop, for_loop, switch, Statements, no_statements, statement, Groups, no_groups, labelled}
use Rattle.rvt_tree.specs.declared.expressions.Lvalue.{Lvalue}
use Rattle.rvt_tree.specs.declared.expressions.Lvalue.TheVariants as L
use Rattle.rvt_tree.specs.declared.expressions.Expr.{Expr}
use Rattle.rvt_tree.specs.declared.expressions.Expr.TheVariants as E
use Rattle.rvt_tree.specs.declared.expressions.Exprs.{Exprs}
use Rattle.rvt_tree.specs.declared.expressions.Exprs.TheVariants as Es
use Rattle.rvt_tree.specs.declared.statements.Act.{Act}
use Rattle.rvt_tree.specs.declared.statements.Act.TheVariants as A
use Rattle.rvt_tree.specs.declared.statements.Acts.{Acts}
use Rattle.rvt_tree.specs.declared.statements.Acts.TheVariants as As
use Rattle.rvt_tree.specs.declared.statements.Init.{Init}
use Rattle.rvt_tree.specs.declared.statements.Init.TheVariants as I
use Rattle.rvt_tree.specs.declared.statements.Inits.{Inits}
use Rattle.rvt_tree.specs.declared.statements.Inits.TheVariants as Is
use Rattle.rvt_tree.specs.declared.statements.Label.{Label}
use Rattle.rvt_tree.specs.declared.statements.Labels.{Labels}
use Rattle.rvt_tree.specs.declared.statements.Labels.TheVariants as Ls
use Rattle.rvt_tree.specs.declared.statements.Stmt.{Stmt}
use Rattle.rvt_tree.specs.declared.statements.Stmt.TheVariants as S
use Rattle.rvt_tree.specs.declared.statements.Stmts.{Stmts}
use Rattle.rvt_tree.specs.declared.statements.Stmts.TheVariants as Ss
use Rattle.rvt_tree.specs.declared.statements.Groups.{Groups as GroupsTree}
use Rattle.rvt_tree.specs.declared.statements.Groups.TheVariants as G

abbrev mutual
  pub lvalue_view : Lvalue → LvalueExpression
  lvalue_view (L.Variable variable) = identifier variable
  lvalue_view (L.Element' p array q index count size) = element (lvalue_view array) (expr_view index) count size
  lvalue_view (L.Member' p aggregate field cell) = member (lvalue_view aggregate) field cell
  lvalue_view (L.Target' p pointer pointee) = dereference (expr_view pointer) pointee
  lvalue_view (L.Indexed' p pointer q index pointee size) = subscript (expr_view pointer) (expr_view index) pointee size
  lvalue_view (L.Arrow' p pointer structure field cell) = arrow (expr_view pointer) structure field cell

  pub expr_view : Expr → Expression
  expr_view (E.Constant n) = constant n
  expr_view E.Null = null_pointer
  expr_view (E.Read' p lvalue) = value_at (lvalue_view lvalue)
  expr_view (E.Address' p lvalue) = address (lvalue_view lvalue)
  expr_view (E.Decay' p lvalue) = decay (lvalue_view lvalue)
  expr_view (E.Cast' kind p e) = cast kind (expr_view e)
  expr_view (E.Plus' p e) = plus (expr_view e)
  expr_view (E.Minus' p e) = minus (expr_view e)
  expr_view (E.Flip' p e) = complement (expr_view e)
  expr_view (E.Not' p e) = negation (expr_view e)
  expr_view (E.Binary' op p a q b) = binary op (expr_view a) (expr_view b)
  expr_view (E.SamePointer' p a q b) = equal_pointers (expr_view a) (expr_view b)
  expr_view (E.OtherPointer' p a q b) = unequal_pointers (expr_view a) (expr_view b)
  expr_view (E.Forward' p pointer q count size) = pointer_plus (expr_view pointer) (expr_view count) size
  expr_view (E.ForwardFrom' p count q pointer size) = plus_pointer (expr_view count) (expr_view pointer) size
  expr_view (E.Backward' p pointer q count size) = pointer_minus (expr_view pointer) (expr_view count) size
  expr_view (E.Both' p a q b) = logical_and (expr_view a) (expr_view b)
  expr_view (E.Either' p a q b) = logical_or (expr_view a) (expr_view b)
  expr_view (E.Choice' p test q first r second) = conditional (expr_view test) (expr_view first) (expr_view second)
  expr_view (E.Call' function p arguments) = call function (exprs_view arguments)

  pub exprs_view : Exprs → Arguments
  exprs_view Es.End = no_arguments
  exprs_view (Es.More' e p rest) = argument (expr_view e) (exprs_view rest)

abbrev pub act_view : Act → Action
act_view (A.Evaluate e) = evaluate (expr_view e)
act_view (A.Call function arguments) = call_void function (exprs_view arguments)
act_view (A.Discard e) = discard (expr_view e)
act_view (A.DiscardCall function arguments) = discard_void function (exprs_view arguments)
act_view (A.Assign lvalue e) = assign (lvalue_view lvalue) (expr_view e)
act_view (A.Update op lvalue kind e) = compound_assign op (lvalue_view lvalue) kind (expr_view e)
act_view (A.Advance lvalue e size) = advance (lvalue_view lvalue) (expr_view e) size
act_view (A.Retreat lvalue e size) = retreat (lvalue_view lvalue) (expr_view e) size
act_view (A.Bump bump lvalue) = step bump (lvalue_view lvalue)
act_view (A.BumpPointer bump lvalue size) = step_pointer bump (lvalue_view lvalue) size

abbrev pub acts_view : Acts → List Action
acts_view As.End = []
acts_view (As.More' a p rest) = act_view a ∷ acts_view rest

abbrev mutual
  pub init_view : Init → Initializer
  init_view (I.Value e) = initial_value (expr_view e)
  init_view (I.Braces' p members) = braces (inits_view members)

  pub inits_view : Inits → Initializers
  inits_view Is.End = no_initializers
  inits_view (Is.More' i size p rest) = initializer (init_view i) size (inits_view rest)

abbrev pub labels_view : Labels → List Label
labels_view Ls.End = []
labels_view (Ls.More' label p rest) = label ∷ labels_view rest

abbrev mutual
  pub stmt_view : Stmt → Statement
  stmt_view (S.Block' p body) = compound (stmts_view body)
  stmt_view S.Empty = null_statement
  stmt_view (S.Act a) = action (act_view a)
  stmt_view (S.Declare variable) = declaration variable
  stmt_view (S.DeclareWith variable init) = declaration_with variable (init_view init)
  stmt_view S.Break = break_statement
  stmt_view S.Continue = continue_statement
  stmt_view S.Return = return_statement
  stmt_view (S.ReturnValue e) = return_value (expr_view e)
  stmt_view (S.If' test p first) = if_statement (expr_view test) (stmt_view first)
  stmt_view (S.IfElse' test p first q second) = if_else (expr_view test) (stmt_view first) (stmt_view second)
  stmt_view (S.While' number test p body) = while_loop number (expr_view test) (stmt_view body)
  stmt_view (S.DoWhile' number p body test) = do_loop number (stmt_view body) (expr_view test)
  stmt_view (S.For' number p first test last q body) = for_loop number (stmts_view first) (option_map expr_view test) (acts_view last) (stmt_view body)
  stmt_view (S.Switch' e p groups) = switch (expr_view e) (groups_view groups)

  pub stmts_view : Stmts → Statements
  stmts_view Ss.End = no_statements
  stmts_view (Ss.More' s p rest) = statement (stmt_view s) (stmts_view rest)

  pub groups_view : GroupsTree → Groups
  groups_view G.End = no_groups
  groups_view (G.More' labels body p rest) = labelled (labels_view labels) (stmts_view body) (groups_view rest)

-- ---- lists of trees, before others

abbrev pub exprs_before : List Expr → Arguments → Arguments
exprs_before [] others = others
exprs_before (e ∷ rest) others = argument (expr_view e) (exprs_before rest others)

abbrev pub stmts_before : List Stmt → Statements → Statements
stmts_before [] others = others
stmts_before (s ∷ rest) others = statement (stmt_view s) (stmts_before rest others)

abbrev pub acts_before : List Act → List Action → List Action
acts_before [] others = others
acts_before (a ∷ rest) others = act_view a ∷ acts_before rest others

abbrev pub inits_before : List (Init × ℕ) → Initializers → Initializers
inits_before [] others = others
inits_before (i ∷ rest) others = initializer (init_view i.0) i.1 (inits_before rest others)

abbrev pub groups_before : List (Labels × Stmts) → Groups → Groups
groups_before [] others = others
groups_before (g ∷ rest) others = labelled (labels_view g.0) (stmts_view g.1) (groups_before rest others)
