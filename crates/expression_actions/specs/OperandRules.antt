-- What each action on expressions makes of what was read: `None` where a value is missing.
use Rattle.std.specs.Prelude.{ℕ, List, [], ◌∷◌, ◌++◌, Option, Some, None}
use Rattle.rvt_tree.specs.declared.places.Place.{Place}
use Rattle.c_syntax.specs.Syntax as syntax
use Rattle.c_syntax.specs.Syntax.{Expression, identifier, arguments_of}
use Rattle.c_tokens.specs.declared.tokens.TokenClass.{TokenClass}
use Rattle.expression_actions.specs.declared.kept_tokens.Kept.{Kept}
use Rattle.expression_actions.specs.Nodes.{constant_of, index_node, dot_node, arrow_node}
use Rattle.expression_actions.specs.Operators.{prefix_of, infix_of}
use Rattle.expression_actions.specs.Stacks.{OperandValues, kept_token}

-- before the first token
abbrev pub nothing_read : OperandValues
nothing_read = record { kept = []; expressions = []; arguments = [] }

-- the token that was read last
abbrev pub keep : TokenClass → List ℕ → Place → OperandValues → Option OperandValues
keep class text place v = Some (record v { kept = kept_token class text place ∷ v.kept })

abbrev pub name_by : List Kept → OperandValues → Option OperandValues
name_by [] v = None
name_by (name ∷ kept) v = Some (record v { kept = kept; expressions = identifier name.word ∷ v.expressions })

abbrev pub name : OperandValues → Option OperandValues
name v = name_by v.kept v

-- the constant that was read last
abbrev pub constant : TokenClass → Place → OperandValues → Option OperandValues
constant class place v = Some (record v { expressions = constant_of class place ∷ v.expressions })

-- ---- calls

abbrev pub no_arguments : OperandValues → Option OperandValues
no_arguments v = Some (record v { arguments = [] ∷ v.arguments })

abbrev pub add_argument_by : List Expression → List (List Expression) → OperandValues → Option OperandValues
add_argument_by [] lists v = None
add_argument_by (e ∷ es) [] v = None
add_argument_by (e ∷ es) (list ∷ lists) v = Some (record v { expressions = es; arguments = (list ++ e ∷ []) ∷ lists })

abbrev pub add_argument : OperandValues → Option OperandValues
add_argument v = add_argument_by v.expressions v.arguments v

abbrev pub call_by : List Kept → List (List Expression) → OperandValues → Option OperandValues
call_by [] lists v = None
call_by (name ∷ kept) [] v = None
call_by (name ∷ kept) (list ∷ lists) v = Some (record { kept = kept; expressions = syntax.call name.word (arguments_of list) ∷ v.expressions; arguments = lists })

abbrev pub call : OperandValues → Option OperandValues
call v = call_by v.kept v.arguments v

-- ---- one token and one expression

-- `(e)`, at its `(`
abbrev pub parenthesized_by : List Kept → List Expression → OperandValues → Option OperandValues
parenthesized_by [] es v = None
parenthesized_by (bracket ∷ kept) [] v = None
parenthesized_by (bracket ∷ kept) (e ∷ es) v = Some (record v { kept = kept; expressions = syntax.parenthesized bracket.word.place e ∷ es })

abbrev pub parenthesized : OperandValues → Option OperandValues
parenthesized v = parenthesized_by v.kept v.expressions v

abbrev pub unary_by : List Kept → List Expression → OperandValues → Option OperandValues
unary_by [] es v = None
unary_by (token ∷ kept) [] v = None
unary_by (token ∷ kept) (e ∷ es) v = Some (record v { kept = kept; expressions = syntax.unary (prefix_of token.class) token.word.place e ∷ es })

abbrev pub unary : OperandValues → Option OperandValues
unary v = unary_by v.kept v.expressions v

abbrev pub sizeof_expression_by : List Kept → List Expression → OperandValues → Option OperandValues
sizeof_expression_by [] es v = None
sizeof_expression_by (token ∷ kept) [] v = None
sizeof_expression_by (token ∷ kept) (e ∷ es) v = Some (record v { kept = kept; expressions = syntax.sizeof_expression token.word.place e ∷ es })

abbrev pub sizeof_expression : OperandValues → Option OperandValues
sizeof_expression v = sizeof_expression_by v.kept v.expressions v

-- ---- suffixes

-- `a[i]`, at its `[`
abbrev pub index_by : List Kept → List Expression → OperandValues → Option OperandValues
index_by [] es v = None
index_by (bracket ∷ kept) [] v = None
index_by (bracket ∷ kept) (i ∷ []) v = None
index_by (bracket ∷ kept) (i ∷ a ∷ es) v = Some (record v { kept = kept; expressions = index_node bracket.word.place i a ∷ es })

abbrev pub index : OperandValues → Option OperandValues
index v = index_by v.kept v.expressions v

-- `a.f`, at its `.`
abbrev pub dot_by : List Kept → List Expression → OperandValues → Option OperandValues
dot_by [] es v = None
dot_by (field ∷ []) es v = None
dot_by (field ∷ token ∷ kept) [] v = None
dot_by (field ∷ token ∷ kept) (a ∷ es) v = Some (record v { kept = kept; expressions = dot_node token.word.place field.word a ∷ es })

abbrev pub dot : OperandValues → Option OperandValues
dot v = dot_by v.kept v.expressions v

-- `a->f`, at its `->`
abbrev pub arrow_by : List Kept → List Expression → OperandValues → Option OperandValues
arrow_by [] es v = None
arrow_by (field ∷ []) es v = None
arrow_by (field ∷ token ∷ kept) [] v = None
arrow_by (field ∷ token ∷ kept) (a ∷ es) v = Some (record v { kept = kept; expressions = arrow_node token.word.place field.word a ∷ es })

abbrev pub arrow : OperandValues → Option OperandValues
arrow v = arrow_by v.kept v.expressions v

-- ---- operators between operands

abbrev pub binary_by : List Kept → List Expression → OperandValues → Option OperandValues
binary_by [] es v = None
binary_by (token ∷ kept) [] v = None
binary_by (token ∷ kept) (right ∷ []) v = None
binary_by (token ∷ kept) (right ∷ left ∷ es) v = Some (record v { kept = kept; expressions = syntax.binary (infix_of token.class) token.word.place left right ∷ es })

abbrev pub binary : OperandValues → Option OperandValues
binary v = binary_by v.kept v.expressions v

-- `a ? b : c`, at its `?`
abbrev pub conditional_by : List Kept → List Expression → OperandValues → Option OperandValues
conditional_by [] es v = None
conditional_by (question ∷ kept) [] v = None
conditional_by (question ∷ kept) (second ∷ []) v = None
conditional_by (question ∷ kept) (second ∷ first ∷ []) v = None
conditional_by (question ∷ kept) (second ∷ first ∷ test ∷ es) v = Some (record v { kept = kept; expressions = syntax.conditional question.word.place test first second ∷ es })

abbrev pub conditional : OperandValues → Option OperandValues
conditional v = conditional_by v.kept v.expressions v
