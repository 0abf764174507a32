-- What an action takes from what was read, and what it puts there.
use Rattle.std.specs.Prelude.{List, [], ◌∷◌, ◌++◌, Option, Some, None}
use Rattle.c_syntax.specs.declared.bases.Base.{Base}
use Rattle.c_syntax.specs.declared.bases.Pointer.{Pointer}
use Rattle.c_syntax.specs.Syntax.{Expression, Dimensions, dimensions_of, Declarator, Initializer, InitDeclarator, Declaration, FieldDeclaration, EnumerationConstant, Members, Parameter, Parameters, Action, ForStart, SwitchLabel, Statement, BlockItem, SwitchGroup, ExternalItem}
use Rattle.expression_actions.specs.declared.kept_tokens.Kept.{Kept}
use Rattle.expression_actions.specs.Bases.{base_of}
use Rattle.file_actions.specs.Stacks.{Values}

-- a list's first and the others, where it has one
abbrev pub from : {X : Type 0} → List X → (X → List X → Option Values) → Option Values
from [] f = None
from (x ∷ xs) f = f x xs

-- ---- the last one that was read, which is missing where there is none

abbrev pub take_token : Values → (Kept → Values → Option Values) → Option Values
take_token v f = from v.expressions.operands.kept (λ x xs. f x (record v { expressions = record v.expressions { operands = record v.expressions.operands { kept = xs } } }))

abbrev pub take_expression : Values → (Expression → Values → Option Values) → Option Values
take_expression v f = from v.expressions.operands.expressions (λ x xs. f x (record v { expressions = record v.expressions { operands = record v.expressions.operands { expressions = xs } } }))

abbrev pub take_base : Values → (Base → Values → Option Values) → Option Values
take_base v f = from v.expressions.types.bases (λ x xs. f (base_of x) (record v { expressions = record v.expressions { types = record v.expressions.types { bases = xs } } }))

abbrev pub take_pointer : Values → (Option Pointer → Values → Option Values) → Option Values
take_pointer v f = from v.expressions.types.pointers (λ x xs. f x (record v { expressions = record v.expressions { types = record v.expressions.types { pointers = xs } } }))

abbrev pub take_dimensions : Values → (Dimensions → Values → Option Values) → Option Values
take_dimensions v f = from v.expressions.types.dims (λ x xs. f (dimensions_of x) (record v { expressions = record v.expressions { types = record v.expressions.types { dims = xs } } }))

abbrev pub take_declarator : Values → (Declarator → Values → Option Values) → Option Values
take_declarator v f = from v.declarations.declarators (λ x xs. f x (record v { declarations = record v.declarations { declarators = xs } }))

abbrev pub take_initializer : Values → (Initializer → Values → Option Values) → Option Values
take_initializer v f = from v.declarations.values (λ x xs. f x (record v { declarations = record v.declarations { values = xs } }))

abbrev pub take_braced : Values → (List Initializer → Values → Option Values) → Option Values
take_braced v f = from v.declarations.braced (λ x xs. f x (record v { declarations = record v.declarations { braced = xs } }))

abbrev pub take_declaration : Values → (Declaration → Values → Option Values) → Option Values
take_declaration v f = from v.declarations.declarations (λ x xs. f x (record v { declarations = record v.declarations { declarations = xs } }))

abbrev pub take_parameters : Values → (Parameters → Values → Option Values) → Option Values
take_parameters v f = from v.externals.lists (λ x xs. f x (record v { externals = record v.externals { lists = xs } }))

abbrev pub take_act : Values → (Action → Values → Option Values) → Option Values
take_act v f = from v.statements.acts (λ x xs. f x (record v { statements = record v.statements { acts = xs } }))

abbrev pub take_statement : Values → (Statement → Values → Option Values) → Option Values
take_statement v f = from v.statements.statements (λ x xs. f x (record v { statements = record v.statements { statements = xs } }))

abbrev pub take_parts : Values → (List BlockItem → Values → Option Values) → Option Values
take_parts v f = from v.statements.blocks (λ x xs. f x (record v { statements = record v.statements { blocks = xs } }))

abbrev pub take_label : Values → (SwitchLabel → Values → Option Values) → Option Values
take_label v f = from v.statements.label (λ x xs. f x (record v { statements = record v.statements { label = xs } }))

abbrev pub take_labels : Values → (List SwitchLabel → Values → Option Values) → Option Values
take_labels v f = from v.statements.labels (λ x xs. f x (record v { statements = record v.statements { labels = xs } }))

abbrev pub take_groups : Values → (List SwitchGroup → Values → Option Values) → Option Values
take_groups v f = from v.statements.groups (λ x xs. f x (record v { statements = record v.statements { groups = xs } }))

abbrev pub take_start : Values → (ForStart → Values → Option Values) → Option Values
take_start v f = from v.statements.starts (λ x xs. f x (record v { statements = record v.statements { starts = xs } }))

abbrev pub take_test : Values → (Option Expression → Values → Option Values) → Option Values
take_test v f = from v.statements.tests (λ x xs. f x (record v { statements = record v.statements { tests = xs } }))

abbrev pub take_last : Values → (List Action → Values → Option Values) → Option Values
take_last v f = from v.statements.lasts (λ x xs. f x (record v { statements = record v.statements { lasts = xs } }))

-- ---- all that were read since they were taken last

abbrev pub take_declared : Values → (List Declarator → Values → Option Values) → Option Values
take_declared v f = f v.declarations.declared (record v { declarations = record v.declarations { declared = [] } })

abbrev pub take_inits : Values → (List InitDeclarator → Values → Option Values) → Option Values
take_inits v f = f v.declarations.inits (record v { declarations = record v.declarations { inits = [] } })

abbrev pub take_fields : Values → (List FieldDeclaration → Values → Option Values) → Option Values
take_fields v f = f v.externals.fields (record v { externals = record v.externals { fields = [] } })

abbrev pub take_enumerators : Values → (List EnumerationConstant → Values → Option Values) → Option Values
take_enumerators v f = f v.externals.enumerators (record v { externals = record v.externals { enumerators = [] } })

abbrev pub take_members : Values → (Option Members → Values → Option Values) → Option Values
take_members v f = f v.externals.members (record v { externals = record v.externals { members = None } })

abbrev pub take_params : Values → (List Parameter → Values → Option Values) → Option Values
take_params v f = f v.externals.params (record v { externals = record v.externals { params = [] } })

abbrev pub take_listed : Values → (List Action → Values → Option Values) → Option Values
take_listed v f = f v.statements.listed (record v { statements = record v.statements { listed = [] } })

-- ---- one more, from which a later action takes

abbrev pub push_declarator : Declarator → Values → Option Values
push_declarator x v = Some (record v { declarations = record v.declarations { declarators = x ∷ v.declarations.declarators } })

abbrev pub push_initializer : Initializer → Values → Option Values
push_initializer x v = Some (record v { declarations = record v.declarations { values = x ∷ v.declarations.values } })

abbrev pub push_braced : List Initializer → Values → Option Values
push_braced x v = Some (record v { declarations = record v.declarations { braced = x ∷ v.declarations.braced } })

abbrev pub push_declaration : Declaration → Values → Option Values
push_declaration x v = Some (record v { declarations = record v.declarations { declarations = x ∷ v.declarations.declarations } })

abbrev pub push_parameters : Parameters → Values → Option Values
push_parameters x v = Some (record v { externals = record v.externals { lists = x ∷ v.externals.lists } })

abbrev pub push_act : Action → Values → Option Values
push_act x v = Some (record v { statements = record v.statements { acts = x ∷ v.statements.acts } })

abbrev pub push_statement : Statement → Values → Option Values
push_statement x v = Some (record v { statements = record v.statements { statements = x ∷ v.statements.statements } })

abbrev pub push_parts : List BlockItem → Values → Option Values
push_parts x v = Some (record v { statements = record v.statements { blocks = x ∷ v.statements.blocks } })

abbrev pub push_label : SwitchLabel → Values → Option Values
push_label x v = Some (record v { statements = record v.statements { label = x ∷ v.statements.label } })

abbrev pub push_labels : List SwitchLabel → Values → Option Values
push_labels x v = Some (record v { statements = record v.statements { labels = x ∷ v.statements.labels } })

abbrev pub push_groups : List SwitchGroup → Values → Option Values
push_groups x v = Some (record v { statements = record v.statements { groups = x ∷ v.statements.groups } })

abbrev pub push_start : ForStart → Values → Option Values
push_start x v = Some (record v { statements = record v.statements { starts = x ∷ v.statements.starts } })

abbrev pub push_test : Option Expression → Values → Option Values
push_test x v = Some (record v { statements = record v.statements { tests = x ∷ v.statements.tests } })

abbrev pub push_last : List Action → Values → Option Values
push_last x v = Some (record v { statements = record v.statements { lasts = x ∷ v.statements.lasts } })

-- ---- one more behind others

abbrev pub add_declared : Declarator → Values → Option Values
add_declared x v = Some (record v { declarations = record v.declarations { declared = v.declarations.declared ++ x ∷ [] } })

abbrev pub add_init : InitDeclarator → Values → Option Values
add_init x v = Some (record v { declarations = record v.declarations { inits = v.declarations.inits ++ x ∷ [] } })

abbrev pub add_field : FieldDeclaration → Values → Option Values
add_field x v = Some (record v { externals = record v.externals { fields = v.externals.fields ++ x ∷ [] } })

abbrev pub add_enumerator : EnumerationConstant → Values → Option Values
add_enumerator x v = Some (record v { externals = record v.externals { enumerators = v.externals.enumerators ++ x ∷ [] } })

abbrev pub add_param : Parameter → Values → Option Values
add_param x v = Some (record v { externals = record v.externals { params = v.externals.params ++ x ∷ [] } })

abbrev pub add_item : ExternalItem → Values → Option Values
add_item x v = Some (record v { externals = record v.externals { items = v.externals.items ++ x ∷ [] } })

abbrev pub add_listed : Action → Values → Option Values
add_listed x v = Some (record v { statements = record v.statements { listed = v.statements.listed ++ x ∷ [] } })

abbrev pub set_members : Members → Values → Option Values
set_members x v = Some (record v { externals = record v.externals { members = Some x } })
