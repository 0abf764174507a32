-- Where an expression begins.
use Rattle.rvt_tree.specs.declared.places.Place.{Place}
use Rattle.c_syntax.specs.Syntax.{Expression, Expression as e, cast, no_casts}
use Rattle.expression_typing.specs.Operands.{Ends}

-- its first token
abbrev pub first_token : Expression → Place
first_token (e.identifier word) = word.place
first_token (e.integer number at) = at
first_token (e.character number at) = at
first_token (e.call function _) = function.place
first_token (e.parenthesized at inner) = at
first_token (e.postfix primary _) = first_token primary
first_token (e.unary op at operand) = at
first_token (e.casts (cast at type rest) operand) = at
first_token (e.casts no_casts operand) = first_token operand
first_token (e.sizeof_expression at operand) = at
first_token (e.sizeof_type at type) = at
first_token (e.binary op at left right) = first_token left
first_token (e.conditional at test first second) = first_token test

-- of an array, the name of the variable that it is or lies in
abbrev pub array_name : Expression → Place
array_name (e.parenthesized at inner) = array_name inner
array_name (e.postfix primary _) = array_name primary
array_name other = first_token other

abbrev pub ends_of : Expression → Ends
ends_of expression = record { first = first_token expression; array_name = array_name expression }
