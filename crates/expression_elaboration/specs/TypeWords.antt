-- Whether a type word is a certain one.
use Rattle.std.specs.Prelude.{Bool, true, false}
use Rattle.c_syntax.specs.declared.bases.TypeWord.{TypeWord}
use Rattle.c_syntax.specs.declared.bases.TypeWord.TheVariants as T
use Rattle.expression_typing.specs.TypeNames.{is_void, is_bool, is_char, is_short, is_long, is_unsigned}

abbrev pub is_int : TypeWord → Bool
is_int T.Int = true
is_int _ = false

abbrev pub is_signed : TypeWord → Bool
is_signed T.Signed = true
is_signed _ = false

abbrev pub is_word : TypeWord → TypeWord → Bool
is_word T.Void = is_void
is_word T.Char = is_char
is_word T.Short = is_short
is_word T.Int = is_int
is_word T.Long = is_long
is_word T.Signed = is_signed
is_word T.Unsigned = is_unsigned
is_word T.Bool = is_bool
