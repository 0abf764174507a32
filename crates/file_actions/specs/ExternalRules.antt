-- What each action on items and their parts makes of what was read (C 6.9): `None` where a value is missing.
use Rattle.std.specs.Prelude.{Option, Some, None}
use Rattle.c_syntax.specs.Syntax as syntax
use Rattle.file_actions.specs.Stacks.{Values}
use Rattle.file_actions.specs.Moves.{take_token, take_expression, take_base, take_pointer, take_dimensions, take_declaration, take_parameters, take_statement, take_declared, take_fields, take_enumerators, take_members, take_params, push_parameters, add_field, add_enumerator, add_param, add_item, set_members}

-- one more parameter
abbrev pub named_param : Values → Option Values
named_param v = take_base v (λ base v. take_token v (λ name v. take_pointer v (λ pointer v. take_dimensions v (λ dimensions v. add_param (record { base = base; pointer = pointer; word = Some name.word; dimensions = dimensions }) v))))

abbrev pub bare_param : Values → Option Values
bare_param v = take_base v (λ base v. take_pointer v (λ pointer v. take_dimensions v (λ dimensions v. add_param (record { base = base; pointer = pointer; word = None; dimensions = dimensions }) v)))

-- `()`, `(void)`, and parameters
abbrev pub no_params : Values → Option Values
no_params v = push_parameters syntax.nothing v

abbrev pub lone_void : Values → Option Values
lone_void v = take_base v (λ base v. push_parameters syntax.only_void v)

abbrev pub params : Values → Option Values
params v = take_params v (λ params v. push_parameters (syntax.parameters params) v)

-- one more line of fields, and what stands in the braces of a struct (C 6.7.2.1)
abbrev pub field : Values → Option Values
field v = take_base v (λ base v. take_declared v (λ declarators v. add_field (record { base = base; declarators = declarators }) v))

abbrev pub fields : Values → Option Values
fields v = take_fields v (λ lines v. set_members (syntax.fields lines) v)

-- one more constant, and what stands in the braces of an enum (C 6.7.2.2)
abbrev pub enumerator_with : Values → Option Values
enumerator_with v = take_token v (λ name v. take_expression v (λ e v. add_enumerator (record { word = name.word; value = Some e }) v))

abbrev pub enumerator_bare : Values → Option Values
enumerator_bare v = take_token v (λ name v. add_enumerator (record { word = name.word; value = None }) v)

abbrev pub enumerators : Values → Option Values
enumerators v = take_enumerators v (λ constants v. set_members (syntax.constants constants) v)

-- an item, whose base has the members that were read since the item before
abbrev pub base_alone : Values → Option Values
base_alone v = take_base v (λ base v. take_members v (λ members v. add_item (syntax.tag_declaration (record { base = base; members = members })) v))

abbrev pub objects : Values → Option Values
objects v = take_declaration v (λ declaration v. take_members v (λ members v. add_item (syntax.object_definition (record { base = declaration.base; members = members }) declaration.inits) v))

abbrev pub typedef : Values → Option Values
typedef v = take_base v (λ base v. take_members v (λ members v. take_declared v (λ declarators v. add_item (syntax.type_definition (record { base = base; members = members }) declarators) v)))

abbrev pub prototype : Values → Option Values
prototype v = take_parameters v (λ list v. take_token v (λ name v. take_base v (λ base v. take_members v (λ members v. add_item (syntax.function_prototype (record { base = base; members = members }) name.word list) v))))

abbrev pub function : Values → Option Values
function v = take_statement v (λ body v. take_parameters v (λ list v. take_token v (λ name v. take_base v (λ base v. take_members v (λ members v. add_item (syntax.function_definition (record { base = base; members = members }) name.word list body) v)))))
