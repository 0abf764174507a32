-- What was read of a file and has no place in a tree yet. In each list from which an action takes one, the last stands first.
use Rattle.std.specs.Prelude.{List, [], Option, None}
use Rattle.c_syntax.specs.Syntax.{Expression, Declarator, Initializer, InitDeclarator, Declaration, FieldDeclaration, EnumerationConstant, Members, Parameter, Parameters, Action, ForStart, SwitchLabel, Statement, BlockItem, SwitchGroup, ExternalItem}
use Rattle.expression_actions.specs.Rules as expression
use Rattle.expression_actions.specs.Stacks.{Values as ExpressionValues}

pub record DeclarationValues : Type 0 where
  pub declarators : List Declarator
  -- those of a typedef or of one line of fields, in order
  pub declared : List Declarator
  pub values : List Initializer
  -- the initializers in the braces that are open, those of each in order
  pub braced : List (List Initializer)
  -- what a declaration has declared so far, in order
  pub inits : List InitDeclarator
  pub declarations : List Declaration

pub record ExternalValues : Type 0 where
  -- the lines of a struct and the constants of an enum, in order
  pub fields : List FieldDeclaration
  pub enumerators : List EnumerationConstant
  -- what stands in the braces of the item's base
  pub members : Option Members
  -- the parameters so far, in order
  pub params : List Parameter
  pub lists : List Parameters
  -- the items so far, in order
  pub items : List ExternalItem

pub record StatementValues : Type 0 where
  pub acts : List Action
  -- those of one part of a `for` header, in order
  pub listed : List Action
  pub statements : List Statement
  -- the parts of the blocks that are open, those of each in order
  pub blocks : List (List BlockItem)
  pub label : List SwitchLabel
  -- the labels of the groups that are open, those of each in order
  pub labels : List (List SwitchLabel)
  -- the groups of the switches that are open, those of each in order
  pub groups : List (List SwitchGroup)
  -- the three parts of the `for` headers that are open
  pub starts : List ForStart
  pub tests : List (Option Expression)
  pub lasts : List (List Action)

pub record Values : Type 0 where
  pub expressions : ExpressionValues
  pub declarations : DeclarationValues
  pub externals : ExternalValues
  pub statements : StatementValues

-- ---- before the first token

abbrev pub no_declarations : DeclarationValues
no_declarations = record { declarators = []; declared = []; values = []; braced = []; inits = []; declarations = [] }

abbrev pub no_externals : ExternalValues
no_externals = record { fields = []; enumerators = []; members = None; params = []; lists = []; items = [] }

abbrev pub no_statements_read : StatementValues
no_statements_read = record { acts = []; listed = []; statements = []; blocks = []; label = []; labels = []; groups = []; starts = []; tests = []; lasts = [] }

abbrev pub nothing_read : Values
nothing_read = record { expressions = expression.nothing_read; declarations = no_declarations; externals = no_externals; statements = no_statements_read }
