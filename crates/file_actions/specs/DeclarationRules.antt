-- What each action on declarations makes of what was read (C 6.7): `None` where a value is missing.
use Rattle.std.specs.Prelude.{[], ◌∷◌, ◌++◌, Option, Some, None}
use Rattle.c_syntax.specs.Syntax as syntax
use Rattle.c_syntax.specs.Syntax.{initializers_of}
use Rattle.file_actions.specs.Stacks.{Values}
use Rattle.file_actions.specs.Moves.{take_token, take_expression, take_base, take_pointer, take_dimensions, take_declarator, take_initializer, take_braced, take_inits, push_declarator, push_initializer, push_braced, push_declaration, add_declared, add_init}

-- what is declared
abbrev pub declarator : Values → Option Values
declarator v = take_token v (λ name v. take_pointer v (λ pointer v. take_dimensions v (λ dimensions v. push_declarator (record { pointer = pointer; word = name.word; dimensions = dimensions }) v)))

-- one more that a typedef or a line of fields declares
abbrev pub add_declarator : Values → Option Values
add_declarator v = take_declarator v (λ declarator v. add_declared declarator v)

-- an initializer that is an expression, and those in braces, at their `{`
abbrev pub cond_value : Values → Option Values
cond_value v = take_expression v (λ e v. push_initializer (syntax.initial_value e) v)

abbrev pub no_values : Values → Option Values
no_values v = push_braced [] v

abbrev pub add_value : Values → Option Values
add_value v = take_initializer v (λ value v. take_braced v (λ list v. push_braced (list ++ value ∷ []) v))

abbrev pub braces : Values → Option Values
braces v = take_token v (λ brace v. take_braced v (λ list v. push_initializer (syntax.braces brace.word.place (initializers_of list)) v))

-- one more that a declaration declares, with its initializer or with none
abbrev pub init_with : Values → Option Values
init_with v = take_initializer v (λ value v. take_declarator v (λ declarator v. add_init (record { declarator = declarator; value = Some value }) v))

abbrev pub init_bare : Values → Option Values
init_bare v = take_declarator v (λ declarator v. add_init (record { declarator = declarator; value = None }) v)

-- a declaration of all those
abbrev pub declaration : Values → Option Values
declaration v = take_base v (λ base v. take_inits v (λ inits v. push_declaration (record { base = base; inits = inits }) v))
