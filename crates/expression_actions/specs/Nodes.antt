-- What an expression becomes by what is written before or after it.
use Rattle.std.specs.Prelude.{pos}
use Rattle.rvt_num.specs.declared.kinds.Kind.TheVariants.{I32}
use Rattle.rvt_num.specs.Wrapping.{wrapped}
use Rattle.rvt_tree.specs.declared.places.Place.{Place}
use Rattle.c_syntax.specs.declared.bases.Word.{Word}
use Rattle.c_syntax.specs.Syntax.{Expression, integer, character, postfix, index, dot, arrow, casts, cast, TypeName, primary_of, suffixes_of, operand_of, casts_of}
use Rattle.c_tokens.specs.declared.tokens.TokenClass.{TokenClass}
use Rattle.c_tokens.specs.declared.tokens.TokenClass.TheVariants as T

abbrev pub zero : Place → Expression
zero place = integer (wrapped I32 (pos 0)) place

-- the constant that a token is (C 6.4.4); the grammar asks it of no other token
abbrev pub constant_of : TokenClass → Place → Expression
constant_of (T.Constant value) place = integer value place
constant_of (T.Character value) place = character value place
constant_of _ place = zero place

-- `a[i]`, `a.f` and `a->f` (C 6.5.2): a suffix more after the same primary expression
abbrev pub index_node : Place → Expression → Expression → Expression
index_node place i a = postfix (primary_of a) (index place i (suffixes_of a))

abbrev pub dot_node : Place → Word → Expression → Expression
dot_node place field a = postfix (primary_of a) (dot place field (suffixes_of a))

abbrev pub arrow_node : Place → Word → Expression → Expression
arrow_node place field a = postfix (primary_of a) (arrow place field (suffixes_of a))

-- `(T) a` (C 6.5.4): a cast more before the same operand
abbrev pub cast_node : Place → TypeName → Expression → Expression
cast_node place type a = casts (cast place type (casts_of a)) (operand_of a)
