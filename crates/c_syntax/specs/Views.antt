-- What each tree says.
use Rattle.std.specs.Prelude.{List, map, Option, option_map}
use Rattle.c_syntax.specs.Syntax.{Expression, identifier, integer, character, call, parenthesized, postfix, unary, casts, sizeof_expression, sizeof_type, binary, conditional, Arguments, no_arguments, argument, Suffixes, no_suffixes, index, dot, arrow, Casts, no_casts, cast, TypeName, type_name, Dimension, unsized, sized, Dimensions, no_dimensions, dimension, Declarator, Initializer, initial_value, braces, Initializers, no_initializers, initializer, InitDeclarator, Declaration, FieldDeclaration, EnumerationConstant, Members, fields, constants, ItemSpecifier, Parameter, Parameters, nothing, only_void, parameters, Action, evaluate, discard, assign, step_after, step_before, ForStart, starts_with_nothing, starts_with_declaration, starts_with_actions, SwitchLabel, case_label, default_label, Statement, compound, null_statement, action, break_statement, continue_statement, return_statement, return_value, if_statement, if_else, while_loop, do_loop, for_loop, switch, BlockItem, local_declaration, inner_statement, BlockItems, no_items, block_item, SwitchGroup, labelled, SwitchGroups, no_groups, switch_group, ExternalItem, type_definition, tag_declaration, object_definition, function_prototype, function_definition}
use Rattle.c_syntax.specs.declared.expressions.Expr.{Expr}
use Rattle.c_syntax.specs.declared.expressions.Expr.TheVariants as E
use Rattle.c_syntax.specs.declared.expressions.Exprs.{Exprs}
use Rattle.c_syntax.specs.declared.expressions.Exprs.TheVariants as Es
use Rattle.c_syntax.specs.declared.expressions.Suffixes.{Suffixes as SuffixesTree}
use Rattle.c_syntax.specs.declared.expressions.Suffixes.TheVariants as Ss
use Rattle.c_syntax.specs.declared.expressions.Casts.{Casts as CastsTree}
use Rattle.c_syntax.specs.declared.expressions.Casts.TheVariants as Cs
use Rattle.c_syntax.specs.declared.expressions.TypeName.{TypeName as TypeNameTree}
use Rattle.c_syntax.specs.declared.expressions.Dim.{Dim}
use Rattle.c_syntax.specs.declared.expressions.Dim.TheVariants as D
use Rattle.c_syntax.specs.declared.expressions.Dims.{Dims}
use Rattle.c_syntax.specs.declared.expressions.Dims.TheVariants as Ds
use Rattle.c_syntax.specs.declared.declarations.Declarator.{Declarator as DeclaratorTree}
use Rattle.c_syntax.specs.declared.declarations.Value.{Value}
use Rattle.c_syntax.specs.declared.declarations.Value.TheVariants as V
use Rattle.c_syntax.specs.declared.declarations.Values.{Values}
use Rattle.c_syntax.specs.declared.declarations.Values.TheVariants as Vs
use Rattle.c_syntax.specs.declared.declarations.Init.{Init}
use Rattle.c_syntax.specs.declared.declarations.Declaration.{Declaration as DeclarationTree}
use Rattle.c_syntax.specs.declared.declarations.Field.{Field}
use Rattle.c_syntax.specs.declared.declarations.Enumerator.{Enumerator}
use Rattle.c_syntax.specs.declared.declarations.Body.{Body}
use Rattle.c_syntax.specs.declared.declarations.Body.TheVariants as B
use Rattle.c_syntax.specs.declared.declarations.ItemBase.{ItemBase}
use Rattle.c_syntax.specs.declared.declarations.Param.{Param}
use Rattle.c_syntax.specs.declared.declarations.Params.{Params}
use Rattle.c_syntax.specs.declared.declarations.Params.TheVariants as Ps
use Rattle.c_syntax.specs.declared.statements.Act.{Act}
use Rattle.c_syntax.specs.declared.statements.Act.TheVariants as A
use Rattle.c_syntax.specs.declared.statements.Start.{Start}
use Rattle.c_syntax.specs.declared.statements.Start.TheVariants as St
use Rattle.c_syntax.specs.declared.statements.Label.{Label}
use Rattle.c_syntax.specs.declared.statements.Label.TheVariants as L
use Rattle.c_syntax.specs.declared.statements.Stmt.{Stmt}
use Rattle.c_syntax.specs.declared.statements.Stmt.TheVariants as S
use Rattle.c_syntax.specs.declared.statements.Part.{Part}
use Rattle.c_syntax.specs.declared.statements.Part.TheVariants as P
use Rattle.c_syntax.specs.declared.statements.Parts.{Parts}
use Rattle.c_syntax.specs.declared.statements.Parts.TheVariants as Bs
use Rattle.c_syntax.specs.declared.statements.Group.{Group}
use Rattle.c_syntax.specs.declared.statements.Groups.{Groups}
use Rattle.c_syntax.specs.declared.statements.Groups.TheVariants as Gs
use Rattle.c_syntax.specs.declared.files.Item.{Item}
use Rattle.c_syntax.specs.declared.files.Item.TheVariants as I
use Rattle.c_syntax.specs.declared.files.File.{File}

abbrev mutual
  pub expr_view : Expr → Expression
  expr_view (E.Name word) = identifier word
  expr_view (E.Constant value place) = integer value place
  expr_view (E.Character value place) = character value place
  expr_view (E.Call' function p es) = call function (exprs_view es)
  expr_view (E.Paren' place p e) = parenthesized place (expr_view e)
  expr_view (E.Postfix' p primary q suffixes) = postfix (expr_view primary) (suffixes_view suffixes)
  expr_view (E.Unary' operator place p e) = unary operator place (expr_view e)
  expr_view (E.Cast' p chain q e) = casts (casts_view chain) (expr_view e)
  expr_view (E.SizeofExpr' place p e) = sizeof_expression place (expr_view e)
  expr_view (E.SizeofType' place base pointer p dims) = sizeof_type place (type_name base pointer (dims_view dims))
  expr_view (E.Binary' operator place p left q right) = binary operator place (expr_view left) (expr_view right)
  expr_view (E.Conditional' place p test q first r second) = conditional place (expr_view test) (expr_view first) (expr_view second)

  pub exprs_view : Exprs → Arguments
  exprs_view Es.End = no_arguments
  exprs_view (Es.More' e p rest) = argument (expr_view e) (exprs_view rest)

  pub suffixes_view : SuffixesTree → Suffixes
  suffixes_view Ss.End = no_suffixes
  suffixes_view (Ss.Index' place e p rest) = index place (expr_view e) (suffixes_view rest)
  suffixes_view (Ss.Dot' place word p rest) = dot place word (suffixes_view rest)
  suffixes_view (Ss.Arrow' place word p rest) = arrow place word (suffixes_view rest)

  pub casts_view : CastsTree → Casts
  casts_view Cs.End = no_casts
  casts_view (Cs.More' place base pointer dims p rest) = cast place (type_name base pointer (dims_view dims)) (casts_view rest)

  pub dim_view : Dim → Dimension
  dim_view (D.Open place) = unsized place
  dim_view (D.Size place e) = sized place (expr_view e)

  pub dims_view : Dims → Dimensions
  dims_view Ds.End = no_dimensions
  dims_view (Ds.More' d p rest) = dimension (dim_view d) (dims_view rest)

abbrev pub type_view : TypeNameTree → TypeName
type_view t = type_name t.base t.pointer (dims_view t.dims)

-- ---- declarations

abbrev pub declarator_view : DeclaratorTree → Declarator
declarator_view d = record { pointer = d.pointer; word = d.word; dimensions = dims_view d.dims }

abbrev mutual
  pub value_view : Value → Initializer
  value_view (V.Expr e) = initial_value (expr_view e)
  value_view (V.Braces' place p members) = braces place (values_view members)

  pub values_view : Values → Initializers
  values_view Vs.End = no_initializers
  values_view (Vs.More' v p rest) = initializer (value_view v) (values_view rest)

abbrev pub init_view : Init → InitDeclarator
init_view i = record { declarator = declarator_view i.declarator; value = option_map value_view i.value }

abbrev pub declaration_view : DeclarationTree → Declaration
declaration_view d = record { base = d.base; inits = map init_view d.inits }

abbrev pub field_view : Field → FieldDeclaration
field_view f = record { base = f.base; declarators = map declarator_view f.declarators }

abbrev pub enumerator_view : Enumerator → EnumerationConstant
enumerator_view e = record { word = e.word; value = option_map expr_view e.value }

abbrev pub body_view : Body → Members
body_view (B.Fields lines) = fields (map field_view lines)
body_view (B.Enumerators es) = constants (map enumerator_view es)

abbrev pub item_base_view : ItemBase → ItemSpecifier
item_base_view b = record { base = b.base; members = option_map body_view b.body }

abbrev pub param_view : Param → Parameter
param_view p = record { base = p.base; pointer = p.pointer; word = p.word; dimensions = dims_view p.dims }

abbrev pub params_view : Params → Parameters
params_view Ps.Nothing = nothing
params_view Ps.Void = only_void
params_view (Ps.List ps) = parameters (map param_view ps)

-- ---- statements

abbrev pub act_view : Act → Action
act_view (A.Evaluate e) = evaluate (expr_view e)
act_view (A.Discard place e) = discard place (expr_view e)
act_view (A.Assign operator place left right) = assign operator place (expr_view left) (expr_view right)
act_view (A.StepAfter step place e) = step_after step place (expr_view e)
act_view (A.StepBefore step place e) = step_before step place (expr_view e)

abbrev pub start_view : Start → ForStart
start_view St.Nothing = starts_with_nothing
start_view (St.Local d) = starts_with_declaration (declaration_view d)
start_view (St.Acts acts) = starts_with_actions (map act_view acts)

abbrev pub label_view : Label → SwitchLabel
label_view (L.Case place e) = case_label place (expr_view e)
label_view (L.Default place) = default_label place

abbrev mutual
  pub stmt_view : Stmt → Statement
  stmt_view (S.Block' place p parts) = compound place (parts_view parts)
  stmt_view (S.Empty place) = null_statement place
  stmt_view (S.Act a) = action (act_view a)
  stmt_view (S.Break place) = break_statement place
  stmt_view (S.Continue place) = continue_statement place
  stmt_view (S.Return place) = return_statement place
  stmt_view (S.ReturnValue place e) = return_value place (expr_view e)
  stmt_view (S.If' place test p first) = if_statement place (expr_view test) (stmt_view first)
  stmt_view (S.IfElse' place test p first q second) = if_else place (expr_view test) (stmt_view first) (stmt_view second)
  stmt_view (S.While' place test p body) = while_loop place (expr_view test) (stmt_view body)
  stmt_view (S.Do' place p body test) = do_loop place (stmt_view body) (expr_view test)
  stmt_view (S.For' place start test last p body) = for_loop place (start_view start) (option_map expr_view test) (map act_view last) (stmt_view body)
  stmt_view (S.Switch' place e p groups) = switch place (expr_view e) (groups_view groups)

  pub part_view : Part → BlockItem
  part_view (P.Local d) = local_declaration (declaration_view d)
  part_view (P.Stmt s) = inner_statement (stmt_view s)

  pub parts_view : Parts → BlockItems
  parts_view Bs.End = no_items
  parts_view (Bs.More' part p rest) = block_item (part_view part) (parts_view rest)

  pub groups_view : Groups → SwitchGroups
  groups_view Gs.End = no_groups
  groups_view (Gs.More' labels parts p rest) = switch_group (labelled (map label_view labels) (parts_view parts)) (groups_view rest)

abbrev pub group_view : Group → SwitchGroup
group_view g = labelled (map label_view g.labels) (parts_view g.parts)

-- ---- files

abbrev pub item_view : Item → ExternalItem
item_view (I.Typedef base declarators) = type_definition (item_base_view base) (map declarator_view declarators)
item_view (I.Base base) = tag_declaration (item_base_view base)
item_view (I.Objects base inits) = object_definition (item_base_view base) (map init_view inits)
item_view (I.Prototype base word params) = function_prototype (item_base_view base) word (params_view params)
item_view (I.Function base word params body) = function_definition (item_base_view base) word (params_view params) (stmt_view body)

abbrev pub file_view : File → List ExternalItem
file_view f = map item_view f.items
