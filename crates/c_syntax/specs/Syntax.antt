-- The abstract syntax of a C file before typing: what its trees say, wherever their parts lie in memory.
use Rattle.std.specs.Prelude.{List, [], ◌∷◌, Option}
use Rattle.rvt_num.specs.Number.{Number}
use Rattle.rvt_tree.specs.declared.places.Place.{Place}
use Rattle.c_syntax.specs.declared.bases.Base.{Base}
use Rattle.c_syntax.specs.declared.bases.Pointer.{Pointer}
use Rattle.c_syntax.specs.declared.bases.Word.{Word}
use Rattle.c_syntax.specs.declared.operators.Infix.{Infix}
use Rattle.c_syntax.specs.declared.operators.Prefix.{Prefix}
use Rattle.c_syntax.specs.declared.operators.Setting.{Setting}
use Rattle.c_syntax.specs.declared.operators.Step.{Step}

mutual
  -- an expression (C 6.5); the place of an operator is that of its token, that of a bracket is where it opens
  pub data Expression : Type 0 where
    identifier : Word → Expression
    integer : Number → Place → Expression
    character : Number → Place → Expression
    call : (function : Word) → Arguments → Expression
    -- `(e)`
    parenthesized : Place → Expression → Expression
    -- a primary expression, and what follows it
    postfix : (primary : Expression) → Suffixes → Expression
    unary : Prefix → Place → Expression → Expression
    -- casts that follow one another, and the expression after the last one
    casts : Casts → Expression → Expression
    sizeof_expression : Place → Expression → Expression
    sizeof_type : Place → TypeName → Expression
    binary : Infix → Place → (left right : Expression) → Expression
    -- `a ? b : c`, at its `?`
    conditional : Place → (test first second : Expression) → Expression

  -- the arguments of a call, in order
  pub data Arguments : Type 0 where
    no_arguments : Arguments
    argument : Expression → Arguments → Arguments

  -- what follows a primary expression (C 6.5.2), the last first
  pub data Suffixes : Type 0 where
    no_suffixes : Suffixes
    -- `[i]`, `.f`, `->f`
    index : Place → Expression → Suffixes → Suffixes
    dot : Place → Word → Suffixes → Suffixes
    arrow : Place → Word → Suffixes → Suffixes

  -- casts, the first one first, each at its `(`
  pub data Casts : Type 0 where
    no_casts : Casts
    cast : Place → TypeName → Casts → Casts

  -- a type that is named in an expression (C 6.7.7)
  pub data TypeName : Type 0 where
    type_name : Base → Option Pointer → Dimensions → TypeName

  -- one dimension of an array, `[]` or `[n]`, at its `[`
  pub data Dimension : Type 0 where
    unsized : Place → Dimension
    sized : Place → Expression → Dimension

  -- the dimensions of an array, in order; of what is no array, none
  pub data Dimensions : Type 0 where
    no_dimensions : Dimensions
    dimension : Dimension → Dimensions → Dimensions

-- ---- declarations (C 6.7)

-- what is declared (C 6.7.6)
pub record Declarator : Type 0 where
  pub pointer : Option Pointer
  pub word : Word
  pub dimensions : Dimensions

-- an initializer (C 6.7.9)
mutual
  pub data Initializer : Type 0 where
    initial_value : Expression → Initializer
    -- those in braces, at the `{`
    braces : Place → Initializers → Initializer

  pub data Initializers : Type 0 where
    no_initializers : Initializers
    initializer : Initializer → Initializers → Initializers

-- a declarator, and its initializer if it has one
pub record InitDeclarator : Type 0 where
  pub declarator : Declarator
  pub value : Option Initializer

-- a declaration in a block
pub record Declaration : Type 0 where
  pub base : Base
  pub inits : List InitDeclarator

-- one line of a struct's fields (C 6.7.2.1)
pub record FieldDeclaration : Type 0 where
  pub base : Base
  pub declarators : List Declarator

-- one constant of an enum, and its value if it is given (C 6.7.2.2)
pub record EnumerationConstant : Type 0 where
  pub word : Word
  pub value : Option Expression

-- what stands in the braces of a struct or an enum
pub data Members : Type 0 where
  fields : List FieldDeclaration → Members
  constants : List EnumerationConstant → Members

-- the base of an item, which alone may have braces
pub record ItemSpecifier : Type 0 where
  pub base : Base
  pub members : Option Members

pub record Parameter : Type 0 where
  pub base : Base
  pub pointer : Option Pointer
  pub word : Option Word
  pub dimensions : Dimensions

-- what stands in the parentheses of a function's declarator: `()`, `(void)`, or parameters
pub data Parameters : Type 0 where
  nothing : Parameters
  only_void : Parameters
  parameters : List Parameter → Parameters

-- ---- statements (C 6.8)

-- what an expression statement or a part of a `for` header does (C 6.8.3), at its operator
pub data Action : Type 0 where
  evaluate : Expression → Action
  -- `(void) e`, at the `(`
  discard : Place → Expression → Action
  assign : Setting → Place → (left right : Expression) → Action
  step_after : Step → Place → Expression → Action
  step_before : Step → Place → Expression → Action

-- the first part of a `for` header
pub data ForStart : Type 0 where
  starts_with_nothing : ForStart
  starts_with_declaration : Declaration → ForStart
  starts_with_actions : List Action → ForStart

-- a label of a `switch`, at its word
pub data SwitchLabel : Type 0 where
  case_label : Place → Expression → SwitchLabel
  default_label : Place → SwitchLabel

mutual
  -- a statement, at its first token where that is a word, a brace or a semicolon
  pub data Statement : Type 0 where
    compound : Place → BlockItems → Statement
    null_statement : Place → Statement
    action : Action → Statement
    break_statement : Place → Statement
    continue_statement : Place → Statement
    return_statement : Place → Statement
    return_value : Place → Expression → Statement
    if_statement : Place → (test : Expression) (first : Statement) → Statement
    if_else : Place → (test : Expression) (first second : Statement) → Statement
    while_loop : Place → (test : Expression) (body : Statement) → Statement
    do_loop : Place → (body : Statement) (test : Expression) → Statement
    for_loop : Place → ForStart → (test : Option Expression) (last : List Action) (body : Statement) → Statement
    switch : Place → Expression → SwitchGroups → Statement

  -- a part of a block
  pub data BlockItem : Type 0 where
    local_declaration : Declaration → BlockItem
    inner_statement : Statement → BlockItem

  pub data BlockItems : Type 0 where
    no_items : BlockItems
    block_item : BlockItem → BlockItems → BlockItems

  -- labels of a `switch`, and what stands under them
  pub data SwitchGroup : Type 0 where
    labelled : List SwitchLabel → BlockItems → SwitchGroup

  pub data SwitchGroups : Type 0 where
    no_groups : SwitchGroups
    switch_group : SwitchGroup → SwitchGroups → SwitchGroups

-- ---- files (C 6.9)

pub data ExternalItem : Type 0 where
  type_definition : ItemSpecifier → List Declarator → ExternalItem
  -- a base alone, for its struct or enum
  tag_declaration : ItemSpecifier → ExternalItem
  object_definition : ItemSpecifier → List InitDeclarator → ExternalItem
  function_prototype : ItemSpecifier → Word → Parameters → ExternalItem
  function_definition : ItemSpecifier → Word → Parameters → (body : Statement) → ExternalItem

-- ---- lists of trees, before others

abbrev pub arguments_before : List Expression → Arguments → Arguments
arguments_before [] others = others
arguments_before (e ∷ rest) others = argument e (arguments_before rest others)

abbrev pub arguments_of : List Expression → Arguments
arguments_of es = arguments_before es no_arguments

abbrev pub dimensions_before : List Dimension → Dimensions → Dimensions
dimensions_before [] others = others
dimensions_before (d ∷ rest) others = dimension d (dimensions_before rest others)

abbrev pub dimensions_of : List Dimension → Dimensions
dimensions_of ds = dimensions_before ds no_dimensions

abbrev pub initializers_before : List Initializer → Initializers → Initializers
initializers_before [] others = others
initializers_before (i ∷ rest) others = initializer i (initializers_before rest others)

abbrev pub initializers_of : List Initializer → Initializers
initializers_of is = initializers_before is no_initializers

abbrev pub block_before : List BlockItem → BlockItems → BlockItems
block_before [] others = others
block_before (b ∷ rest) others = block_item b (block_before rest others)

abbrev pub block_of : List BlockItem → BlockItems
block_of bs = block_before bs no_items

abbrev pub groups_before : List SwitchGroup → SwitchGroups → SwitchGroups
groups_before [] others = others
groups_before (g ∷ rest) others = switch_group g (groups_before rest others)

abbrev pub groups_of : List SwitchGroup → SwitchGroups
groups_of gs = groups_before gs no_groups

-- ---- chains, which are kept as one node so that they nest nowhere

-- what an expression's suffixes follow, and these
abbrev pub primary_of : Expression → Expression
primary_of (postfix primary chain) = primary
primary_of e = e

abbrev pub suffixes_of : Expression → Suffixes
suffixes_of (postfix primary chain) = chain
suffixes_of e = no_suffixes

-- what is cast, and the casts before it
abbrev pub operand_of : Expression → Expression
operand_of (casts chain operand) = operand
operand_of e = e

abbrev pub casts_of : Expression → Casts
casts_of (casts chain operand) = chain
casts_of e = no_casts
