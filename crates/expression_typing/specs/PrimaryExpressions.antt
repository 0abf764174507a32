-- Names and constants (C 6.5.1).
use Rattle.std.specs.Prelude.{Option, Some, None, pos}
use Rattle.rvt_num.specs.Number.{Number}
use Rattle.rvt_num.specs.Operations.{int_eq}
use Rattle.rvt_tree.specs.declared.expressions.Variable.TheVariants as V
use Rattle.rvt_tree.specs.Syntax.{identifier, constant}
use Rattle.c_syntax.specs.declared.bases.Word.{Word}
use Rattle.expression_typing.specs.Entities.{Entity, a_local, an_object, a_function, a_constant, the_null, a_typedef}
use Rattle.expression_typing.specs.Operands.{Operand, a_place, an_integer, an_int_value, a_null}
use Rattle.expression_typing.specs.Outcomes.{Checking, give, broken, unknown_name, wrong_type, not_in_profile}

-- a name that stands for this; the name of a function stands in a call alone
abbrev pub named : Word → Option Entity → Checking Operand
named word None = broken (unknown_name word.name) word.place
named word (Some (a_local number shape fixed)) = give (a_place shape fixed (identifier (V.Local number)))
named word (Some (an_object number shape fixed)) = give (a_place shape fixed (identifier (V.Object number)))
named word (Some (a_function number params result)) = broken not_in_profile word.place
named word (Some (a_constant n)) = give (an_int_value n.kind (constant n))
named word (Some the_null) = give a_null
named word (Some (a_typedef type)) = broken wrong_type word.place

-- an integer constant (C 6.4.4.1)
abbrev pub integer_constant : Number → Operand
integer_constant n = an_integer n.kind (constant n) (int_eq n.value (pos 0))

-- a character constant (C 6.4.4.4)
abbrev pub character_constant : Number → Operand
character_constant n = an_int_value n.kind (constant n)
